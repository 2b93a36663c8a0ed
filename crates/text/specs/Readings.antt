-- What reading a state into lines comes to.
use Rattle.std.specs.Prelude.{◌≡◌, ℕ, ◌+◌, ◌≤◌, ◌∷◌, length, Option, None, Some}
use mathlib.Core.List as L
use Rattle.list.specs.Lists.{items}
use Rattle.logic.specs.Logic.{Formula}
use Rattle.logic.specs.Logic as logic
use Rattle.logic.specs.Lines.{flatten}
use Rattle.logic.specs.Questions.{line_of, question}
use Rattle.logic.specs.declared.line.Line.{Line}
use Rattle.grammar.specs.declared.Joint.{Joint}
use Rattle.grammar.specs.declared.Joint.TheVariants as joint
use Rattle.grammar.specs.declared.Ahead.{Ahead}
use Rattle.grammar.specs.declared.Ahead.TheVariants as ahead
use Rattle.grammar.specs.Tokens.{Tok, t_open, t_close, t_greater, t_until, t_end}
use Rattle.grammar.specs.Grammar.{print, ahead_tok}
use Rattle.grammar.specs.Parts.{Ends, Wrong}
use Rattle.text.specs.declared.parser.Parser.{Parser}
use Rattle.text.specs.Faults.{TextFault, rule_number}
use Rattle.text.specs.Vocabularies.{terms_of}
use Rattle.text.specs.declared.parts.Mark.{Mark}
use Rattle.text.specs.declared.parts.Mark.TheVariants as mark

-- the token that is due
abbrev pub mark_tok : Mark → Tok
mark_tok mark.Close = t_close
mark_tok mark.Greater = t_greater
mark_tok mark.Until = t_until
mark_tok mark.End = t_end

-- the token that begins a path: of one state, or of two, with U between them
abbrev pub lead_tok : Option Ahead → Tok
lead_tok (Some h) = ahead_tok h
lead_tok None = t_open

-- the line of an operator
abbrev pub joint_line : Joint → ℕ → ℕ → logic.Line
joint_line joint.And a b = logic.And a b
joint_line joint.Or a b = logic.Or a b

abbrev pub ahead_line : Ahead → ℕ → ℕ → logic.Line
ahead_line ahead.Next A a = logic.Next A a
ahead_line ahead.Always A a = logic.Always A a

-- from p to q: the same text, terms and number of places, and at least so many bytes more than lines
pub record Spent (more : ℕ) (p q : Parser) : Type 0 where
  pub text : q.cursor.text ≡ p.cursor.text
  pub terms : q.terms ≡ p.terms
  pub size : length q.lines.places.now ≡ length p.lines.places.now
  pub lines : more + q.lines.count + p.cursor.at ≤ p.lines.count + q.cursor.at

-- a state was read, and its lines added
pub record Stated (allow : ℕ) (p q : Parser) (at : ℕ) : Type 0 where
  pub formula : Formula
  pub ends : Ends (terms_of p.terms) (print (terms_of p.terms).word allow) p.cursor.text.now L.[] p.cursor.at q.cursor.at formula
  pub lines : question (items q.lines) ≡ flatten formula (question (items p.lines))
  pub number : at + 1 ≡ q.lines.count
  pub spent : Spent 0 p q

-- a state that begins with pre was read, the lines of its parts added, and its own line made
pub record Parted (allow : ℕ) (pre : L.List Tok) (p q : Parser) (made : Line) : Type 0 where
  pub formula : Formula
  pub ends : Ends (terms_of p.terms) (print (terms_of p.terms).word allow) p.cursor.text.now pre p.cursor.at q.cursor.at formula
  pub line : line_of made ∷ question (items q.lines) ≡ flatten formula (question (items p.lines))
  pub spent : Spent 1 p q

-- after the tokens pre, a state begins and then fails
pub record Faulty (allow : ℕ) (pre : L.List Tok) (p : Parser) (f : TextFault) : Type 0 where
  pub wrong : Wrong (terms_of p.terms) (print (terms_of p.terms).word allow) p.cursor.text.now pre p.cursor.at (rule_number f.rule) f.place
