-- The model file: the bytes that spell a model and the names of its marks.
use Rattle.std.specs.Prelude.{ℕ, zero, suc, ◌+◌, ◌/◌, ◌%◌, ◌^◌, ◌<◌, cond, List, [], ◌∷◌, ◌++◌, length, nat_lt, slice_index_or}
use Rattle.model.specs.Model.{Marks, Model, joint}

-- the commands of a file
pub data Command : Type 0 where
  -- so many agents, states and marks
  begin : ℕ → ℕ → ℕ → Command
  -- the eight bytes that name a mark
  name : ℕ → List ℕ → Command
  -- a state's marks and its six counts
  state : ℕ → List ℕ → Command
  -- the state that follows the next joint move
  out : ℕ → Command
  -- so many outcomes in all
  finish : ℕ → Command

-- how they are written: a code, then the operands; a number of two bytes has the high byte first
abbrev pub encode : Command → List ℕ
encode (begin k n m) = 1 ∷ k ∷ n ∷ m ∷ []
encode (name i bytes) = 2 ∷ i ∷ bytes
encode (state marks counts) = 3 ∷ marks / 256 ∷ marks % 256 ∷ counts
encode (out t) = 4 ∷ t ∷ []
encode (finish total) = 5 ∷ total / 256 ∷ total % 256 ∷ []

-- f 0, f 1, .. below n, one after another
abbrev pub upto : {X : Type 0} → (ℕ → List X) → ℕ → List X
upto f zero = []
upto f (suc n) = upto f n ++ f n

-- the six counts at a state: 0 from agent k on
abbrev pub count_of : Model → ℕ → ℕ → ℕ
count_of M s a = cond (nat_lt a M.k) (M.d s a) 0

abbrev pub counts_at : Model → ℕ → List ℕ
counts_at M s = upto (λ a. count_of M s a ∷ []) 6

-- the name of a mark, an outcome, and a state with its outcomes, one for each joint move in order
abbrev pub name_bytes : List (List ℕ) → ℕ → List ℕ
name_bytes names i = encode (name i (slice_index_or names i []))

abbrev pub out_bytes : Model → ℕ → ℕ → List ℕ
out_bytes M s j = encode (out (M.out s j))

abbrev pub state_bytes : Model → ℕ → List ℕ
state_bytes M s = encode (state (M.marks s) (counts_at M s)) ++ upto (out_bytes M s) (joint M s)

-- how many outcomes the first n states have
abbrev pub outcomes : Model → ℕ → ℕ
outcomes M zero = 0
outcomes M (suc n) = outcomes M n + joint M n

-- the file of a model and the names of its marks
unfoldable pub file_of : Model → List (List ℕ) → List ℕ
file_of M names =
    encode (begin M.k M.n (length names)) ++ (upto (name_bytes names) (length names) ++ (upto (state_bytes M) M.n ++ encode (finish (outcomes M M.n))))

-- each mark that a state carries is one of the first m
abbrev pub Named : Marks → ℕ → Type 0
Named x m = (s : ℕ) → s < x.n → x.marks s < 2 ^ m
