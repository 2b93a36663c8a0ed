-- Which texts are accepted, and why and where the others are refused.
use Rattle.std.specs.Prelude.{◌≡◌, ℕ, ◌^◌, ◌<◌, List, ◌≢◌}
use Rattle.logic.specs.Logic.{Formula}
use Rattle.grammar.specs.Tokens.{Tok, t_true, t_name, t_agents, t_gap, Blank, Run, TokAt, Strange, Lexes}
use Rattle.grammar.specs.Grammar.{Vocabulary, Over, sentence, Due, Goes, Stuck, like}

-- why what stands from a place on, after the tokens ts, is refused at p, in the order in which this is judged
pub data Fails (V : Vocabulary) (W : Formula → List Tok) (text : List ℕ) (ts : List Tok) (from p : ℕ) : ℕ → Type 0 where
  -- a state is due where no depth is left, and so nothing else
  deep : Goes W ts t_gap → ((t : Tok) → (t ≢ t_gap) → Stuck W ts t) → Run Blank text from p → Fails V W text ts from p 14
  -- there is no such token
  strange : Stuck W ts t_gap → Strange text from p → Fails V W text ts from p 11
  -- the token isn't due
  undue : Stuck W ts t_gap → (q : ℕ) (t : Tok) → TokAt text from p q t → Stuck W ts t → Stuck W ts (like t) → Fails V W text ts from p 11
  -- a name that no mark has
  unknown : (q : ℕ) (w : List ℕ) → TokAt text from p q (t_name w) → Goes W ts t_true → ((i : ℕ) → i < V.marks → V.word i ≢ w) → Fails V W text ts from p 12
  -- an agent that there isn't
  missing : (q A : ℕ) → TokAt text from p q (t_agents A) → Goes W ts (t_agents A) → (A < 2 ^ V.agents → ⊥) → Fails V W text ts from p 13

-- the tokens before the place begin a formula of the vocabulary that goes on, and what stands there fails
pub record Refused (V : Vocabulary) (text : List ℕ) (number place : ℕ) : Type 0 where
  pub tokens : List Tok
  pub from : ℕ
  pub lexed : Lexes text 0 tokens from
  pub begun : (t : Tok) × Due V (sentence V.word) tokens t
  pub fails : Fails V (sentence V.word) text tokens from place number

-- the text spells a formula of the vocabulary
pub record Spelled (V : Vocabulary) (text : List ℕ) (f : Formula) : Type 0 where
  pub over : Over V f
  pub to : ℕ
  pub lexed : Lexes text 0 (sentence V.word f) to

-- it spells this one and no other
pub record Accepts (V : Vocabulary) (text : List ℕ) (f : Formula) : Type 0 where
  pub spelled : Spelled V text f
  pub only : (g : Formula) → Spelled V text g → g ≡ f

-- the refusal is this one and no other, and the text spells no formula
pub record Rejects (V : Vocabulary) (text : List ℕ) (number place : ℕ) : Type 0 where
  pub refused : Refused V text number place
  pub only : (a p : ℕ) → Refused V text a p → (a ≡ number) × (p ≡ place)
  pub none : (g : Formula) → Spelled V text g → ⊥
