-- How a file is read, command by command, and where it fails.
use Rattle.std.specs.Prelude.{◌≡◌, ℕ, ◌+◌, ◌-◌, ◌^◌, ◌<◌, ◌≤◌, Bool, true, false, cond, List, [], ◌∷◌, ◌++◌, length, ◌==◌, ◌≢◌, nat_lt, slice_index}
use Rattle.std.specs.List.{flat_map}
use Rattle.sets.specs.Sets.{limit}
use Rattle.model.specs.Model.{Model, Ranged, everyone, marks_of, moves}
use Rattle.model.specs.Kinds.{CountsRanged}
use Rattle.legend.specs.Names.{Lawful}
use Rattle.file.specs.File.{Command, begin, name, state, out, finish, encode, file_of, Named}

-- the code of a command, and how many bytes follow a code
abbrev pub code : Command → ℕ
code (begin k n m) = 1
code (name i bytes) = 2
code (state marks counts) = 3
code (out t) = 4
code (finish total) = 5

abbrev pub size : ℕ → ℕ
size c = cond (c == 1) 3 (cond (c == 2) 9 (cond (c == 3) 8 (cond (c == 4) 1 2)))

-- a command that has as many operands as its code says
abbrev pub Formed : Command → Type 0
Formed (begin k n m) = Unit {0}
Formed (name i bytes) = length bytes ≡ 8
Formed (state marks counts) = length counts ≡ 6
Formed (out t) = Unit {0}
Formed (finish total) = Unit {0}

-- what the commands so far told: agents, states and marks, and of each how many came; the outcomes that the last state still lacks, and all that came
pub record Seen : Type 0 where
  pub k : ℕ
  pub n : ℕ
  pub m : ℕ
  pub names : List (List ℕ)
  pub states : ℕ
  pub left : ℕ
  pub outs : ℕ
  pub ended : Bool

abbrev pub nothing : Seen
nothing = record { k = 0; n = 0; m = 0; names = []; states = 0; left = 0; outs = 0; ended = false }

-- the code that is due: BEGIN, then a NAME for each mark, then each STATE followed by its OUTs, then END, then none
abbrev pub due : Seen → ℕ
due s = cond s.ended 0 (cond (s.k == 0) 1 (cond (nat_lt (length s.names) s.m) 2 (cond (nat_lt 0 s.left) 4 (cond (nat_lt s.states s.n) 3 5))))

abbrev pub after : Seen → Command → Seen
after s (begin k n m) = record { k = k; n = n; m = m; names = []; states = 0; left = 0; outs = 0; ended = false }
after s (name i bytes) = record { k = s.k; n = s.n; m = s.m; names = s.names ++ bytes ∷ []; states = s.states; left = s.left; outs = s.outs; ended = s.ended }
after s (state marks counts) =
    record { k = s.k; n = s.n; m = s.m; names = s.names; states = s.states + 1; left = moves everyone (λ a. slice_index counts a) s.k; outs = s.outs; ended = s.ended }
after s (out t) = record { k = s.k; n = s.n; m = s.m; names = s.names; states = s.states; left = s.left - 1; outs = s.outs + 1; ended = s.ended }
after s (finish total) = record { k = s.k; n = s.n; m = s.m; names = s.names; states = s.states; left = s.left; outs = s.outs; ended = true }

-- the counts of k agents keep the ranges, and the others are 0
pub record Counts (k : ℕ) (counts : List ℕ) : Type 0 where
  pub ranged : CountsRanged k (λ a. slice_index counts a)
  pub others : (a : ℕ) → k ≤ a → a < 6 → slice_index counts a ≡ 0

-- a command that keeps its rule
abbrev pub Keeps : Seen → Command → Type 0
Keeps s (begin k n m) = ((1 ≤ k) × (k ≤ 6)) × ((1 ≤ n) × (n ≤ limit)) × (m ≤ 16)
Keeps s (name i bytes) = (i ≡ length s.names) × Lawful (s.names ++ bytes ∷ [])
Keeps s (state marks counts) = (marks < 2 ^ s.m) × Counts s.k counts
Keeps s (out t) = t < s.n
Keeps s (finish total) = total ≡ s.outs

-- the number of the refusal of a command that breaks its rule; a state with an undeclared mark is refused for that first
abbrev pub broken : Seen → Command → ℕ
broken s (begin k n m) = 3
broken s (name i bytes) = 4
broken s (state marks counts) = cond (nat_lt marks (2 ^ s.m)) 6 5
broken s (out t) = 7
broken s (finish total) = 8

-- commands that are due one after another and keep their rules, from one moment to another
pub data Leads : Seen → List Command → Seen → Type 0 where
  none : {s : Seen} → Leads s [] s
  more : {s t : Seen} {cs : List Command} (c : Command) → Formed c → code c ≡ due s → Keeps s c → Leads (after s c) cs t → Leads s (c ∷ cs) t

-- why the bytes that come next are refused: 1 there is none, 2 another command was due, 1 an operand is missing, and then a rule that is broken
pub data Fails (s : Seen) (rest : List ℕ) : ℕ → Type 0 where
  absent : rest ≡ [] → Fails s rest 1
  other : (b : ℕ) (r : List ℕ) → rest ≡ b ∷ r → (b ≢ due s) → Fails s rest 2
  short : (r : List ℕ) → rest ≡ due s ∷ r → length r < size (due s) → Fails s rest 1
  breaks : (c : Command) (r : List ℕ) → Formed c → rest ≡ encode c ++ r → code c ≡ due s → (Keeps s c → ⊥) → Fails s rest (broken s c)

-- the commands before the place are whole, due and keep their rules, and what stands there fails
pub record Refused (input : List ℕ) (number place : ℕ) : Type 0 where
  pub commands : List Command
  pub seen : Seen
  pub rest : List ℕ
  pub leads : Leads nothing commands seen
  pub going : seen.ended ≡ false
  pub bytes : input ≡ flat_map encode commands ++ rest
  pub place_is : place ≡ length (flat_map encode commands)
  pub fails : Fails seen rest number

-- a model and names that have a file
pub record Fileable (M : Model) (names : List (List ℕ)) : Type 0 where
  pub ranged : Ranged M
  pub lawful : Lawful names
  pub named : Named (marks_of M) (length names)

-- the input begins with the file of a model and names
abbrev pub Begins : List ℕ → Model → List (List ℕ) → List ℕ → Type 0
Begins input M names rest = Fileable M names × (input ≡ file_of M names ++ rest)
