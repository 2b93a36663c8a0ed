-- The commands of a file, and that they lead from the first moment to the end.
use Rattle.std.proofs.Common.{◌≡◌, ℕ, zero, suc, ◌+◌, ◌-◌, ◌<◌, ◌≤◌, true, false, List, [], ◌∷◌, ◌++◌, length, get_or, take, sym, refl, ap, ◌∙◌, subst, inl, inr, add-one, arith}
use Rattle.std.specs.List.{flat_map}
use Rattle.std.proofs.lemmas.Grind.{common_steps, flat_map-append}
use Rattle.std.proofs.lemmas.Bool.Decides.{nat_tests}
use Rattle.std.proofs.lemmas.List.{append-nil, append_assoc, append_cancel_left, length-take-le, take_all, take_more, same_from_push, ext_get_or}
use Rattle.std.proofs.lemmas.Bool.{cases_eq}
use Rattle.model.specs.Model.{Model, Same, everyone, moves, joint}
use Rattle.model.proofs.Same.{moves_same}
use Rattle.legend.specs.Names.{Lawful}
use Rattle.legend.proofs.Spelling.{name_length}
use Rattle.file.specs.File.{Command, begin, name, state, out, finish, encode, upto, count_of, counts_at, name_bytes, out_bytes, state_bytes, outcomes, file_of}
use Rattle.file.specs.Reading.{code, Seen, nothing, due, after, Counts, Leads, none, more, Refused, Fileable, Begins}
use Rattle.file.proofs.Spanning.{length-upto, outcomes_more, file_parts}
use Rattle.file.proofs.Once.{leads_append, ended_once, ended_never}

-- the commands that declare the names, that tell a state and its outcomes, and all commands of a file
abbrev pub name_at : List (List ℕ) → ℕ → List Command
name_at names i = name i (get_or names i []) ∷ []

abbrev pub out_at : Model → ℕ → ℕ → List Command
out_at M s j = out (M.out s j) ∷ []

abbrev pub state_at : Model → ℕ → List Command
state_at M s = state (M.marks s) (counts_at M s) ∷ upto (out_at M s) (joint M s)

abbrev pub commands_of : Model → List (List ℕ) → List Command
commands_of M names =
    begin M.k M.n (length names) ∷ (upto (name_at names) (length names) ++ (upto (state_at M) M.n ++ finish (outcomes M M.n) ∷ []))

-- a row of commands spells a row of bytes
pub joined_upto : {X A : Type 0} (f : X → List A) (g : ℕ → List X) (h : ℕ → List A) (n : ℕ) → ((i : ℕ) → flat_map f (g i) ≡ h i) → flat_map f (upto g n) ≡ upto h n
joined_upto f g h zero e = refl
joined_upto f g h (suc n) e = grind (arith, joined_upto f g h n e, e, flat_map-append)

pub names_spelled : (names : List (List ℕ)) (n : ℕ) → flat_map encode (upto (name_at names) n) ≡ upto (name_bytes names) n
names_spelled names n = joined_upto encode (name_at names) (name_bytes names) n (λ i. append-nil (name_bytes names i))

pub outs_spelled : (M : Model) (s n : ℕ) → flat_map encode (upto (out_at M s) n) ≡ upto (out_bytes M s) n
outs_spelled M s n = joined_upto encode (out_at M s) (out_bytes M s) n (λ i. refl)

pub states_spelled : (M : Model) (n : ℕ) → flat_map encode (upto (state_at M) n) ≡ upto (state_bytes M) n
states_spelled M n = joined_upto encode (state_at M) (state_bytes M) n (λ s. ap (λ (l : List ℕ). encode (state (M.marks s) (counts_at M s)) ++ l) (outs_spelled M s (joint M s)))

pub file_commands : (M : Model) (names : List (List ℕ)) → flat_map encode (commands_of M names) ≡ file_of M names
file_commands M names = grind (arith, common_steps, flat_map-append, names_spelled names (length names), states_spelled M M.n, file_parts M names)

-- a row of readings, from moment to moment
pub leads_upto : (at : ℕ → Seen) (f : ℕ → List Command) (n : ℕ) → ((i : ℕ) → i < n → Leads (at i) (f i) (at (i + 1))) → Leads (at 0) (upto f n) (at n)
leads_upto at f zero h = none
leads_upto at f (suc n) h = leads_append (leads_upto at f n (λ i l. h i (omega arith))) (subst (λ (i : ℕ). Leads (at n) (f n) (at i)) (add-one n) (h n (omega arith)))

-- the moments of reading a file: after some names; after i of them; then after some states; after s states with all their outcomes; within the state s after j outcomes
module _ (M : Model) (names : List (List ℕ)) where
  abbrev pub told : List (List ℕ) → Seen
  told some = record { k = M.k; n = M.n; m = length names; names = some; states = 0; left = 0; outs = 0; ended = false }

  abbrev pub naming : ℕ → Seen
  naming i = told (take i names)

  abbrev pub moment : ℕ → ℕ → ℕ → Seen
  moment s left outs = record { k = M.k; n = M.n; m = length names; names = names; states = s; left = left; outs = outs; ended = false }

  abbrev pub between : ℕ → Seen
  between s = moment s 0 (outcomes M s)

  abbrev pub within : ℕ → ℕ → Seen
  within s j = moment (s + 1) (joint M s - j) (outcomes M s + j)

  moment_same : (s : ℕ) {l o l' o' : ℕ} → l ≡ l' → o ≡ o' → moment s l o ≡ moment s l' o'
  moment_same s {l} {o} {l'} {o'} p q = cc

-- the moment that a row ends in may be another name for the same
leads_to : {s t u : Seen} {cs : List Command} → t ≡ u → Leads s cs t → Leads s cs u
leads_to {s} {cs = cs} e a = subst (Leads s cs) e a

-- an item of a row of single items
pub get_or-upto : {X : Type 0} (f : ℕ → X) (n i : ℕ) (d : X) → i < n → get_or (upto (λ j. f j ∷ []) n) i d ≡ f i
get_or-upto f zero i d l = absurd (omega arith)
get_or-upto f (suc n) i d l = grind (arith, common_steps, get_or-upto f n i d, length-upto (λ j. f j ∷ []) 1 n (λ _ _. refl))

-- the counts as they are written
pub count_written : (M : Model) (s a : ℕ) → a < 6 → get_or (counts_at M s) a 0 ≡ count_of M s a
count_written M s a l = get_or-upto (count_of M s) 6 a 0 l

pub count_below : (M : Model) (s a : ℕ) → M.k ≤ 6 → a < M.k → get_or (counts_at M s) a 0 ≡ M.d s a
count_below M s a six l = grind (arith, nat_tests, count_written M s a)

pub count_above : (M : Model) (s a : ℕ) → M.k ≤ a → a < 6 → get_or (counts_at M s) a 0 ≡ 0
count_above M s a h l = grind (arith, nat_tests, count_written M s a)

pub joint_written : (M : Model) (s : ℕ) → M.k ≤ 6 → moves everyone (λ a. get_or (counts_at M s) a 0) M.k ≡ joint M s
joint_written M s six = moves_same everyone (λ a. get_or (counts_at M s) a 0) (M.d s) M.k (λ a l. count_below M s a six l)

-- the first names alone are lawful too
pub lawful_take : {names : List (List ℕ)} → Lawful names → (i : ℕ) → i ≤ length names → Lawful (take i names)
lawful_take law i h = grind (arith, common_steps, law.each, law.differ)

-- what is due, from what was told
module _ (s : Seen) (going : s.ended ≡ false) (some : 1 ≤ s.k) where
  pub due_name : length s.names < s.m → due s ≡ 2
  due_name l = grind (arith, nat_tests)

  module _ (all : s.m ≤ length s.names) where
    pub due_out : 0 < s.left → due s ≡ 4
    due_out l = grind (arith, nat_tests)

    pub due_state : s.left ≡ 0 → s.states < s.n → due s ≡ 3
    due_state z l = grind (arith, nat_tests)

    pub due_end : s.left ≡ 0 → s.n ≤ s.states → due s ≡ 5
    due_end z l = grind (arith, nat_tests)

module _ {M : Model} {names : List (List ℕ)} (able : Fileable M names) where
  -- the i-th name
  pub name_leads : (i : ℕ) → i < length names → Leads (naming M names i) (name_at names i) (naming M names (i + 1))
  name_leads i l =
      let long : length (take i names) ≡ i = length-take-le i names (omega arith) in
      let next : take (i + 1) names ≡ take i names ++ get_or names i [] ∷ [] = take_more names i [] l in
      let law : Lawful (take i names ++ get_or names i [] ∷ []) = rw next at (lawful_take able.lawful (i + 1) (omega arith)) in
      let here : code (name i (get_or names i [])) ≡ due (naming M names i) = sym (due_name (naming M names i) refl able.ranged.agents.0 (omega arith)) in
      leads_to {t = told M names (take i names ++ get_or names i [] ∷ [])} (ap (told M names) (sym next))
      (more (name i (get_or names i [])) (name_length (able.lawful.each i l)) here (sym long, law) none)

  -- the outcome of the joint move j
  pub out_leads : (s j : ℕ) → s < M.n → j < joint M s → Leads (within M names s j) (out_at M s j) (within M names s (j + 1))
  out_leads s j l h =
      let here : code (out (M.out s j)) ≡ due (within M names s j) = sym (due_out (within M names s j) refl able.ranged.agents.0 (omega arith) (omega arith)) in
      leads_to (moment_same M names (s + 1) (omega arith) (omega arith)) (more (out (M.out s j)) tt here (able.ranged.inside s j l h) none)

  pub counts_keep : (s : ℕ) → s < M.n → Counts M.k (counts_at M s)
  counts_keep s l = record {
    ranged = record {
      agents = able.ranged.agents.1;
      choices = λ a h. rw (count_below M s a able.ranged.agents.1 h) (able.ranged.choices s a l h);
      product = rw (joint_written M s able.ranged.agents.1) (able.ranged.product s l);
    };
    others = λ a h i. count_above M s a h i;
  }

  -- the command of a state, and a state with all its outcomes
  pub head_leads : (s : ℕ) → s < M.n → Leads (between M names s) (state (M.marks s) (counts_at M s) ∷ []) (within M names s 0)
  head_leads s l =
      let here : code (state (M.marks s) (counts_at M s)) ≡ due (between M names s) = sym (due_state (between M names s) refl able.ranged.agents.0 (omega arith) refl l) in
      leads_to (moment_same M names (s + 1) (omega (arith, joint_written M s able.ranged.agents.1)) (omega arith))
      (more (state (M.marks s) (counts_at M s)) refl here (able.named s l, counts_keep s l) none)

  pub state_leads : (s : ℕ) → s < M.n → Leads (between M names s) (state_at M s) (between M names (s + 1))
  state_leads s l =
      leads_append (head_leads s l)
      (leads_to (moment_same M names (s + 1) (omega arith) (sym (outcomes_more M s))) (leads_upto (within M names s) (out_at M s) (joint M s) (λ j h. out_leads s j l h)))

  pub names_lead : (i : ℕ) → i ≤ length names → Leads (naming M names 0) (upto (name_at names) i) (naming M names i)
  names_lead i h = leads_upto (naming M names) (name_at names) i (λ a l. name_leads a (omega arith))

  pub states_lead : (s : ℕ) → s ≤ M.n → Leads (between M names 0) (upto (state_at M) s) (between M names s)
  states_lead s h = leads_upto (between M names) (state_at M) s (λ a l. state_leads a (omega arith))

  -- from the first name to the first state
  pub all_named : naming M names (length names) ≡ between M names 0
  all_named = ap (told M names) (take_all (length names) names (omega arith))

  pub file_leads : (t : Seen) × Leads nothing (commands_of M names) t × (t.ended ≡ true)
  file_leads =
      let end = finish (outcomes M M.n) in
      let here : code end ≡ due (between M names M.n) = sym (due_end (between M names M.n) refl able.ranged.agents.0 (omega arith) refl (omega arith)) in (
        after (between M names M.n) end,
        more (begin M.k M.n (length names)) tt refl (able.ranged.agents, able.ranged.states, able.lawful.few)
            (leads_append (leads_to all_named (names_lead (length names) (omega arith))) (leads_append (states_lead M.n (omega arith)) (more end tt here refl none))),
        refl,
      )

-- what a refusal is given for begins with no file
pub no_file : {input : List ℕ} {a p : ℕ} {M : Model} {names : List (List ℕ)} (r : List ℕ) → Refused input a p → Begins input M names r → ⊥
no_file {M = M} {names = names} r x (able, e) =
    let (t, a, h) = file_leads able in
    ended_never r a h (e ∙ ap (λ (l : List ℕ). l ++ r) (sym (file_commands M names))) x

-- two lists of the same length at the front of the same list
pub fronts_same : {X : Type 0} (xs ys a b : List X) → length xs ≡ length ys → xs ++ a ≡ ys ++ b → (xs ≡ ys) × (a ≡ b)
fronts_same [] [] a b l e = (refl, e)
fronts_same [] (y ∷ ys) a b l e = absurd (omega arith)
fronts_same (x ∷ xs) [] a b l e = absurd (omega arith)
fronts_same (x ∷ xs) (y ∷ ys) a b l e = grind (arith, fronts_same xs ys a b)

-- the part s of a row stands after the parts before it
pub upto_front : {X : Type 0} (f : ℕ → List X) (s n : ℕ) → s < n → (w : List X) × (upto f n ≡ upto f s ++ (f s ++ w))
upto_front f s zero l = absurd (omega arith)
upto_front f s (suc n) l =
    elim (cases_eq s n) [
      | inl e ↦ ([], grind (arith, common_steps))
      | inr h ↦ let (w, e) = upto_front f s n (omega arith) in (w ++ f n, grind (arith, common_steps, append_assoc))
    ]

-- one item each: equal rows have equal items
pub items_same : {X : Type 0} (f g : ℕ → X) (n i : ℕ) → upto (λ j. f j ∷ []) n ≡ upto (λ j. g j ∷ []) n → i < n → f i ≡ g i
items_same f g n i e l = grind (arith, get_or-upto f n i (f i), get_or-upto g n i (f i))

-- two states read off the same commands
pub record StateSame (M N : Model) (s : ℕ) : Type 0 where
  pub marked : M.marks s ≡ N.marks s
  pub counted : counts_at M s ≡ counts_at N s
  pub joints : joint M s ≡ joint N s
  pub outs : upto (out_at M s) (joint M s) ≡ upto (out_at N s) (joint N s)

module _ (M N : Model) (agents : M.k ≡ N.k) (six : M.k ≤ 6) where
  pub state_same : (s : ℕ) (a b : List Command) → state_at M s ++ a ≡ state_at N s ++ b → StateSame M N s
  state_same s a b e =
      let heads : state (M.marks s) (counts_at M s) ≡ state (N.marks s) (counts_at N s) = cc in
      let tails : upto (out_at M s) (joint M s) ++ a ≡ upto (out_at N s) (joint N s) ++ b = cc in
      let counted : counts_at M s ≡ counts_at N s = ap counts_in heads in
      let joints : joint M s ≡ joint N s =
      sym (joint_written M s six) ∙ ap (λ (x : List ℕ). moves everyone (λ i. get_or x i 0) M.k) counted
      ∙ ap (moves everyone (λ i. get_or (counts_at N s) i 0)) agents ∙ joint_written N s (omega arith) in
      record {
        marked = cc heads;
        counted = counted;
        joints = joints;
        outs = (fronts_same (upto (out_at M s) (joint M s)) (upto (out_at N s) (joint N s)) a b
            (omega (arith, length-upto (out_at M s) 1 (joint M s) (λ _ _. refl), length-upto (out_at N s) 1 (joint N s) (λ _ _. refl))) tails).0;
      }
    where
      counts_in : Command → List ℕ
      counts_in (begin k n m) = []
      counts_in (name i bytes) = []
      counts_in (state marks counts) = counts
      counts_in (out t) = []
      counts_in (finish total) = []

  -- from equal rows of states: the rows before a state are equal, and so is the state
  module _ (n : ℕ) (rows : upto (state_at M) n ≡ upto (state_at N) n) where
    state_here : (s : ℕ) → s < n → upto (state_at M) s ≡ upto (state_at N) s → StateSame M N s
    state_here s l e =
        let (w, p) = upto_front (state_at M) s n l in
        let (v, q) = upto_front (state_at N) s n l in
        state_same s w v (append_cancel_left (upto (state_at M) s) (state_at M s ++ w) (state_at N s ++ v)
        (sym p ∙ rows ∙ q ∙ ap (λ (x : List Command). x ++ (state_at N s ++ v)) (sym e)))

    rows_before : (s : ℕ) → s ≤ n → upto (state_at M) s ≡ upto (state_at N) s
    rows_before zero h = refl
    rows_before (suc s) h =
        let e = rows_before s (omega arith) in
        let x = state_here s (omega arith) e in
        cc (x.marked, x.counted, x.outs)

    pub states_same : (s : ℕ) → s < n → StateSame M N s
    states_same s l = state_here s l (rows_before s (omega arith))

-- equal commands are those of the same model with the same names
pub commands_same : (M N : Model) (names others : List (List ℕ)) → M.k ≤ 6 → commands_of M names ≡ commands_of N others → Same M N × (names ≡ others)
commands_same M N names others six e =
    let m = length names in
    let starts : begin M.k M.n m ≡ begin N.k N.n (length others) = cc in
    let agents : M.k ≡ N.k = cc starts in
    let states : M.n ≡ N.n = cc starts in
    let long : m ≡ length others = cc starts in
    let tails : upto (name_at names) m ++ (upto (state_at M) M.n ++ finish (outcomes M M.n) ∷ [])
    ≡ upto (name_at others) (length others) ++ (upto (state_at N) N.n ++ finish (outcomes N N.n) ∷ []) = cc in
    let (named, after) = fronts_same (upto (name_at names) m) (upto (name_at others) (length others)) _ _
    (omega (arith, length-upto (name_at names) 1 m (λ _ _. refl), length-upto (name_at others) 1 (length others) (λ _ _. refl))) tails in
    let told : upto (name_at names) m ≡ upto (name_at others) m = named ∙ ap (upto (name_at others)) (sym long) in
    let (rows, _) = same_from_push (upto (state_at M) M.n) (upto (state_at N) N.n) _ _ after in
    let same : (s : ℕ) → s < M.n → StateSame M N s = states_same M N agents six M.n (rows ∙ ap (upto (state_at N)) (sym states)) in (
      record {
        states = states;
        agents = agents;
        marked = λ s l. (same s l).marked;
        counted = λ s a l h.
            sym (count_below M s a six h) ∙ ap (λ (x : List ℕ). get_or x a 0) (same s l).counted ∙ count_below N s a (omega arith) (omega arith);
        leads = λ s j l h.
            let x = same s l in
            let outs : out (M.out s j) ≡ out (N.out s j) =
            items_same (λ i. out (M.out s i)) (λ i. out (N.out s i)) (joint M s) j (x.outs ∙ ap (upto (out_at N s)) (sym x.joints)) h in
            cc outs;
      },
      ext_get_or [] names others long (λ i l.
          let here : name i (get_or names i []) ≡ name i (get_or others i []) = items_same (λ j. name j (get_or names j [])) (λ j. name j (get_or others j [])) m i told l in
          cc here),
    )

pub begins_same : {input : List ℕ} {M N : Model} {names others : List (List ℕ)} {r q : List ℕ} → Begins input M names r → Begins input N others q →
    Same M N × (names ≡ others) × (r ≡ q)
begins_same {input} {M} {N} {names} {others} {r} {q} (able, e) (fit, h) =
    let (t, a, x) = file_leads able in
    let (u, b, y) = file_leads fit in
    let both : flat_map encode (commands_of M names) ++ r ≡ flat_map encode (commands_of N others) ++ q =
    ap (λ (l : List ℕ). l ++ r) (file_commands M names) ∙ sym e ∙ h ∙ ap (λ (l : List ℕ). l ++ q) (sym (file_commands N others)) in
    let (commands, rests) = ended_once a x b y both in
    let (same, named) = commands_same M N names others able.ranged.agents.1 commands in
    (same, named, rests)
