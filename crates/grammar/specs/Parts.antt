-- What reading a part of a text comes to.
use Rattle.std.specs.Prelude.{◌≡◌, ℕ, ◌≤◌, List, ◌++◌, length}
use Rattle.logic.specs.Logic.{Formula}
use Rattle.grammar.specs.Tokens.{Tok, TokAt, Strange, Lexes}
use Rattle.grammar.specs.Grammar.{Vocabulary, Over, Due}
use Rattle.grammar.specs.Texts.{Fails}

-- after the tokens pre, the tokens of text from a place to another end the formula f
pub record Ends (V : Vocabulary) (W : Formula → List Tok) (text : List ℕ) (pre : List Tok) (from to : ℕ) (f : Formula) : Type 0 where
  pub over : Over V f
  pub rest : List Tok
  pub whole : W f ≡ pre ++ rest
  pub lexed : Lexes text from rest to
  pub within : to ≤ length text

-- after the tokens pre, the text from a place on begins a formula, and then fails
pub record Wrong (V : Vocabulary) (W : Formula → List Tok) (text : List ℕ) (pre : List Tok) (from number place : ℕ) : Type 0 where
  pub tokens : List Tok
  pub at : ℕ
  pub lexed : Lexes text from tokens at
  pub begun : (t : Tok) × Due V W (pre ++ tokens) t
  pub fails : Fails V W text (pre ++ tokens) at place number

-- instead of a token that is wanted, there is none or another
pub data Miss (text : List ℕ) (from : ℕ) (Wanted : Tok → Type 0) (place : ℕ) : Type 0 where
  strange : Strange text from place → Miss text from Wanted place
  other : (q : ℕ) (t : Tok) → TokAt text from place q t → (Wanted t → ⊥) → Miss text from Wanted place
