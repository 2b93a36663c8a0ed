-- How formulas are written, and which tokens can go on.
use Rattle.std.specs.Prelude.{◌≡◌, ℕ, zero, suc, ◌^◌, ◌<◌, cond, List, [], ◌∷◌, ◌++◌, length, ◌==◌, ◌≢◌, slice_index_or}
use Rattle.logic.specs.Logic.{Formula, verum, mark, neg, both, either, next, always, until}
use Rattle.grammar.specs.declared.Joint.{Joint}
use Rattle.grammar.specs.declared.Joint.TheVariants.{And, Or}
use Rattle.grammar.specs.declared.Ahead.{Ahead}
use Rattle.grammar.specs.declared.Ahead.TheVariants.{Next, Always}
use Rattle.grammar.specs.Tokens.{
  Tok,
  t_true,
  t_name,
  t_agents,
  t_not,
  t_and,
  t_or,
  t_open,
  t_close,
  t_less,
  t_greater,
  t_next,
  t_always,
  t_until,
  t_end,
  t_gap,
}

-- what a text may speak of: so many marks, each with its word, and so many agents
pub record Vocabulary : Type 0 where
  pub marks : ℕ
  pub word : ℕ → List ℕ
  pub agents : ℕ

-- a name without the spaces that pad it
abbrev pub word_of : List ℕ → List ℕ
word_of [] = []
word_of (b ∷ bs) = cond (b == 32) [] (b ∷ word_of bs)

-- the vocabulary of a legend's names and of k agents
abbrev pub vocabulary : List (List ℕ) → ℕ → Vocabulary
vocabulary names k = record { marks = length names; word = λ i. word_of (slice_index_or names i []); agents = k }

-- a formula that speaks of nothing else
abbrev pub Over : Vocabulary → Formula → Type 0
Over V verum = Unit {0}
Over V (mark i) = i < V.marks
Over V (neg f) = Over V f
Over V (both f g) = Over V f × Over V g
Over V (either f g) = Over V f × Over V g
Over V (next A f) = (A < 2 ^ V.agents) × Over V f
Over V (always A f) = (A < 2 ^ V.agents) × Over V f
Over V (until A f g) = (A < 2 ^ V.agents) × Over V f × Over V g

-- the members of a coalition are one token, or nothing
abbrev pub members : ℕ → List Tok
members zero = []
members (suc a) = t_agents (suc a) ∷ []

-- `<`, agents and `>`, and what follows
abbrev pub group : ℕ → List Tok → List Tok
group A ts = t_less ∷ (members A ++ (t_greater ∷ ts))

-- how a state is written, d levels deep: `true`, a name, `!` state, `(` state `&` state `)`, `(` state `|` state `)`, or `<` agents `>` and a path;
-- a path is `X` state, `G` state, or `(` state `U` state `)`; a state that stands deeper is a gap
abbrev pub print : (ℕ → List ℕ) → ℕ → Formula → List Tok
print word zero f = t_gap ∷ []
print word (suc d) verum = t_true ∷ []
print word (suc d) (mark i) = t_name (word i) ∷ []
print word (suc d) (neg f) = t_not ∷ print word d f
print word (suc d) (both f g) = t_open ∷ (print word d f ++ (t_and ∷ (print word d g ++ (t_close ∷ []))))
print word (suc d) (either f g) = t_open ∷ (print word d f ++ (t_or ∷ (print word d g ++ (t_close ∷ []))))
print word (suc d) (next A f) = group A (t_next ∷ print word d f)
print word (suc d) (always A f) = group A (t_always ∷ print word d f)
print word (suc d) (until A f g) = group A (t_open ∷ (print word d f ++ (t_until ∷ (print word d g ++ (t_close ∷ [])))))

-- the formulas that an operator makes, and its token
abbrev pub joined_by : Joint → Formula → Formula → Formula
joined_by And f g = both f g
joined_by Or f g = either f g

abbrev pub joint_tok : Joint → Tok
joint_tok And = t_and
joint_tok Or = t_or

abbrev pub ahead_by : Ahead → ℕ → Formula → Formula
ahead_by Next A f = next A f
ahead_by Always A f = always A f

abbrev pub ahead_tok : Ahead → Tok
ahead_tok Next = t_next
ahead_tok Always = t_always

-- how deep states may stand, the whole at depth 1
unfoldable pub deepest : ℕ
deepest = 32

-- a whole text: a state and the end
abbrev pub sentence : (ℕ → List ℕ) → Formula → List Tok
sentence word f = print word deepest f ++ t_end ∷ []

-- W is a way to write formulas, as a state of some depth or as a whole text. Some formula of the vocabulary begins with ts and goes on with t
pub record Due (V : Vocabulary) (W : Formula → List Tok) (ts : List Tok) (t : Tok) : Type 0 where
  pub formula : Formula
  pub rest : List Tok
  pub over : Over V formula
  pub is : W formula ≡ ts ++ t ∷ rest

-- some formula does, of whatever vocabulary
pub record Goes (W : Formula → List Tok) (ts : List Tok) (t : Tok) : Type 0 where
  pub formula : Formula
  pub rest : List Tok
  pub is : W formula ≡ ts ++ t ∷ rest

-- no formula does, and none ends before
pub record Stuck (W : Formula → List Tok) (ts : List Tok) (t : Tok) : Type 0 where
  pub never : (f : Formula) (a b : List Tok) → W f ++ a ≢ ts ++ t ∷ b

-- a token that is due exactly where this one is: any name is due where `true` is
abbrev pub like : Tok → Tok
like t_true = t_true
like (t_name w) = t_true
like (t_agents A) = t_agents A
like t_not = t_not
like t_and = t_and
like t_or = t_or
like t_open = t_open
like t_close = t_close
like t_less = t_less
like t_greater = t_greater
like t_next = t_next
like t_always = t_always
like t_until = t_until
like t_end = t_end
like t_gap = t_gap
