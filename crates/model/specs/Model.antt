-- Concurrent game models: states with marks, agents with choices, and the outcome of every joint move.
use Rattle.std.specs.Prelude.{◌≡◌, ℕ, zero, suc, ◌+◌, ◌*◌, ◌/◌, ◌%◌, ◌^◌, ◌<◌, ◌≤◌, true, cond, T, ◌↔◌}
use Rattle.sets.specs.Sets.{Set, bit, limit}

-- a marked set: states 0 to n - 1, each with some of 16 marks, the bits of a number
pub record Marks : Type 0 where
  pub n : ℕ
  pub marks : ℕ → ℕ

pub record MarksRanged (m : Marks) : Type 0 where
  pub states : (1 ≤ m.n) × (m.n ≤ limit)
  pub sixteen : (s : ℕ) → s < m.n → m.marks s < 2 ^ 16

-- a model: a marked set, k agents, d s a choices of agent a at state s, and the state that follows each joint move
pub record Model : Type 0 where
  pub n : ℕ
  pub marks : ℕ → ℕ
  pub k : ℕ
  pub d : ℕ → ℕ → ℕ
  pub out : ℕ → ℕ → ℕ

abbrev pub marks_of : Model → Marks
marks_of M = record { n = M.n; marks = M.marks }

-- how many joint moves the first a of the agents have, those in A alone, by their counts d
abbrev pub moves : Set → (ℕ → ℕ) → ℕ → ℕ
moves A d zero = 1
moves A d (suc a) = moves A d a * cond (A a) (d a) 1

abbrev pub everyone : Set
everyone a = true

-- J(s): how many joint moves there are at s
abbrev pub joint : Model → ℕ → ℕ
joint M s = moves everyone (M.d s) M.k

-- what the agent a of A chooses in the joint move j of A
abbrev pub choice : Set → (ℕ → ℕ) → ℕ → ℕ → ℕ
choice A d a j = j / moves A d a % d a

-- the number of the joint move in which each agent a of A, of the first few, chooses f a: its choice times the counts of all lower agents of A, summed
abbrev pub number : Set → (ℕ → ℕ) → (ℕ → ℕ) → ℕ → ℕ
number A d f zero = 0
number A d f (suc a) = number A d f a + cond (A a) (f a * moves A d a) 0

-- what the first few agents, those in A, choose in the joint move j: a joint move of theirs alone
abbrev pub own : Set → (ℕ → ℕ) → ℕ → ℕ → ℕ
own A d a j = number A d (λ i. choice everyone d i j) a

-- the own choice of the coalition A that the joint move j at s agrees with, and how many own choices A has at s
abbrev pub own_of : Model → ℕ → ℕ → ℕ → ℕ
own_of M A s j = own (bit A) (M.d s) M.k j

abbrev pub owns : Model → ℕ → ℕ → ℕ
owns M A s = moves (bit A) (M.d s) M.k

-- a coalition exists when each of its bits is below k
abbrev pub Exists : Model → ℕ → Type 0
Exists M A = A < 2 ^ M.k

-- no state has more joint moves, and no agent more choices
abbrev pub most : ℕ
most = 64

-- the ranges that every model keeps
pub record Ranged (M : Model) : Type 0 where
  pub states : (1 ≤ M.n) × (M.n ≤ limit)
  pub agents : (1 ≤ M.k) × (M.k ≤ 6)
  pub sixteen : (s : ℕ) → s < M.n → M.marks s < 2 ^ 16
  pub choices : (s a : ℕ) → s < M.n → a < M.k → (1 ≤ M.d s a) × (M.d s a ≤ most)
  pub product : (s : ℕ) → s < M.n → joint M s ≤ most
  pub inside : (s j : ℕ) → s < M.n → j < joint M s → M.out s j < M.n

-- A has an own choice at s such that every joint move agreeing with it leads into X
pub record Can (M : Model) (A s : ℕ) (X : ℕ → Type 0) : Type 0 where
  pub coalition : Exists M A
  pub state : s < M.n
  pub with : ℕ
  pub below : with < owns M A s
  pub leads : (j : ℕ) → j < joint M s → own_of M A s j ≡ with → X (M.out s j)

-- the law of the numbering at the state s, for the coalition A
pub record Numbering (M : Model) (A s : ℕ) : Type 0 where
  -- a joint move is the number of the choices that it consists of, one that each agent has
  pub choices : (j a : ℕ) → a < M.k → choice everyone (M.d s) a j < M.d s a
  pub sum : (j : ℕ) → j < joint M s → number everyone (M.d s) (λ a. choice everyone (M.d s) a j) M.k ≡ j
  -- it agrees with one own choice of A, the one in which each member chooses what it chooses in the joint move
  pub below : (j : ℕ) → own_of M A s j < owns M A s
  pub agrees : (j c : ℕ) → c < owns M A s →
      (own_of M A s j ≡ c) ↔ ((a : ℕ) → a < M.k → T (bit A a) → choice everyone (M.d s) a j ≡ choice (bit A) (M.d s) a c)
  -- and each own choice has a joint move that agrees with it
  pub met : (c : ℕ) → c < owns M A s → (j : ℕ) × (j < joint M s) × (own_of M A s j ≡ c)

-- the same model as far as states, agents and joint moves exist
pub record Same (M N : Model) : Type 0 where
  pub states : M.n ≡ N.n
  pub agents : M.k ≡ N.k
  pub marked : (s : ℕ) → s < M.n → M.marks s ≡ N.marks s
  pub counted : (s a : ℕ) → s < M.n → a < M.k → M.d s a ≡ N.d s a
  pub leads : (s j : ℕ) → s < M.n → j < joint M s → M.out s j ≡ N.out s j
