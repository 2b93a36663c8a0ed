-- A token of the code as the grammar sees it.
use Rattle.std.specs.Prelude.{◌≡◌, ℕ, ◌<◌, ◌≤◌, Option, None, length, slice_index}
use Rattle.legend.specs.Names.{LetterOrDigit}
use Rattle.grammar.specs.Tokens.{
  Tok,
  t_true,
  t_name,
  t_agents,
  t_not,
  t_and,
  t_or,
  t_open,
  t_close,
  t_less,
  t_greater,
  t_next,
  t_always,
  t_until,
  t_end,
  Rising,
  number,
}
use Rattle.text.specs.declared.token.Token.{Token}
use Rattle.text.specs.declared.token.Token.TheVariants as token

abbrev pub shown : Token → Tok
shown token.True = t_true
shown (token.Name r) = t_name r.now
shown (token.Agents r) = t_agents (number r.now)
shown token.Not = t_not
shown token.And = t_and
shown token.Or = t_or
shown token.Open = t_open
shown token.Close = t_close
shown token.Less = t_less
shown token.Greater = t_greater
shown token.Next = t_next
shown token.Always = t_always
shown token.Until = t_until
shown token.End = t_end

-- the bytes that a token borrows are letters and digits, or rising digits
abbrev pub Proper : Token → Type 0
Proper token.True = Unit {0}
Proper (token.Name r) = (i : ℕ) → i < length r.now → LetterOrDigit (slice_index r.now i)
Proper (token.Agents r) = (1 ≤ length r.now) × Rising 48 r.now
Proper token.Not = Unit {0}
Proper token.And = Unit {0}
Proper token.Or = Unit {0}
Proper token.Open = Unit {0}
Proper token.Close = Unit {0}
Proper token.Less = Unit {0}
Proper token.Greater = Unit {0}
Proper token.Next = Unit {0}
Proper token.Always = Unit {0}
Proper token.Until = Unit {0}
Proper token.End = Unit {0}

-- no token that is seen so fails the test
abbrev pub Passing : {T : Type 0} → (Token → Option T → Type 0) → Tok → Type 0
Passing Test k = (t : Token) → shown t ≡ k → Test t None → ⊥
