-- A token from how the grammar sees it.
use Rattle.std.proofs.Common.{◌≡◌, ℕ, List, refl, subst, Bor}
use Rattle.grammar.specs.Tokens.{
  Tok,
  t_true,
  t_name,
  t_agents,
  t_not,
  t_and,
  t_or,
  t_open,
  t_close,
  t_less,
  t_greater,
  t_next,
  t_always,
  t_until,
  t_end,
  t_gap,
}
use Rattle.text.specs.declared.token.Token.{Token}
use Rattle.text.specs.declared.token.Token.TheVariants as token
use Rattle.text.specs.Shown.{shown}

-- t is a token that is seen so
abbrev pub Seen : Token → Tok → Type 0
Seen t t_true = t ≡ token.True
Seen t (t_name w) = (r : Bor (List ℕ)) × (t ≡ token.Name r)
Seen t (t_agents A) = (r : Bor (List ℕ)) × (t ≡ token.Agents r)
Seen t t_not = t ≡ token.Not
Seen t t_and = t ≡ token.And
Seen t t_or = t ≡ token.Or
Seen t t_open = t ≡ token.Open
Seen t t_close = t ≡ token.Close
Seen t t_less = t ≡ token.Less
Seen t t_greater = t ≡ token.Greater
Seen t t_next = t ≡ token.Next
Seen t t_always = t ≡ token.Always
Seen t t_until = t ≡ token.Until
Seen t t_end = t ≡ token.End
Seen t t_gap = ⊥

seen_shown : (t : Token) → Seen t (shown t)
seen_shown token.True = refl
seen_shown (token.Name r) = (r, refl)
seen_shown (token.Agents r) = (r, refl)
seen_shown token.Not = refl
seen_shown token.And = refl
seen_shown token.Or = refl
seen_shown token.Open = refl
seen_shown token.Close = refl
seen_shown token.Less = refl
seen_shown token.Greater = refl
seen_shown token.Next = refl
seen_shown token.Always = refl
seen_shown token.Until = refl
seen_shown token.End = refl

pub seen : (t : Token) {k : Tok} → shown t ≡ k → Seen t k
seen t e = subst (Seen t) e (seen_shown t)
