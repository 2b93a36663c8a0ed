-- What operators do to vocabularies and lines, and small steps of the readers.
use Rattle.std.proofs.Common.{◌≡◌, ℕ, ◌^◌, ◌<◌, [], ◌∷◌, Option, None, Some, refl, subst}
use mathlib.Core.List as L
use Rattle.logic.specs.Logic.{Formula}
use Rattle.logic.specs.Logic as logic
use Rattle.logic.specs.Lines.{last, flatten}
use Rattle.logic.specs.declared.line.Line.{Line}
use Rattle.grammar.specs.declared.Joint.{Joint}
use Rattle.grammar.specs.declared.Joint.TheVariants as joint
use Rattle.grammar.specs.declared.Ahead.{Ahead}
use Rattle.grammar.specs.declared.Ahead.TheVariants as ahead
use Rattle.grammar.specs.Tokens.{Tok, t_end, Lexes}
use Rattle.grammar.specs.Grammar.{Vocabulary, Over, joined_by, ahead_by, ahead_tok}
use Rattle.grammar.specs.Parts.{Miss}
use Rattle.grammar.proofs.Dues.{Leads}
use Rattle.text.specs.Faults.{TextFault}
use Rattle.text.specs.declared.parser.Parser.{Parser}
use Rattle.text.specs.Readings.{lead_tok, joint_line, ahead_line, Stated, Parted, Faulty}

pub over_joined : (V : Vocabulary) (j : Joint) (f g : Formula) → Over V f → Over V g → Over V (joined_by j f g)
over_joined V joint.And f g a b = (a, b)
over_joined V joint.Or f g a b = (a, b)

pub over_ahead : (V : Vocabulary) (h : Ahead) (A : ℕ) → A < 2 ^ V.agents → (f : Formula) → Over V f → Over V (ahead_by h A f)
over_ahead V ahead.Next A e f o = (e, o)
over_ahead V ahead.Always A e f o = (e, o)

pub flat_joined : (j : Joint) (f g : Formula) (q : L.List logic.Line) → flatten (joined_by j f g) q ≡ joint_line j (last (flatten f q)) (last (flatten g (flatten f q))) ∷ flatten g (flatten f q)
flat_joined joint.And f g q = refl
flat_joined joint.Or f g q = refl

pub flat_ahead : (h : Ahead) (A : ℕ) (f : Formula) (q : L.List logic.Line) → flatten (ahead_by h A f) q ≡ ahead_line h A (last (flatten f q)) ∷ flatten f q
flat_ahead ahead.Next A f q = refl
flat_ahead ahead.Always A f q = refl

-- what begins no path
pub no_lead : {text : L.List ℕ} {from place : ℕ} → Miss text from (λ t. (l : Option Ahead) × (t ≡ lead_tok l)) place → Miss text from Leads place
no_lead (Miss.strange s) = Miss.strange s
no_lead (Miss.other q t at h) = Miss.other q t at (λ l. h (led l))
  where
    led : Leads t → (l : Option Ahead) × (t ≡ lead_tok l)
    led (Leads.onward h e) = (Some h, e)
    led (Leads.opens e) = (None, e)

-- what begins a path, when it is known
pub lead_is : {text : L.List ℕ} {from to : ℕ} {x y : Option Ahead} → x ≡ y → Lexes text from (lead_tok x ∷ []) to → Lexes text from (lead_tok y ∷ []) to
lead_is {text} {from} {to} e l = subst (λ (z : Option Ahead). Lexes text from (lead_tok z ∷ []) to) e l

-- one level more
pub stated_at : {d e : ℕ} {p q : Parser} {at : ℕ} → d ≡ e → Stated d p q at → Stated e p q at
stated_at {p = p} {q} {at} h x = subst (λ (n : ℕ). Stated n p q at) h x

pub faulty_at : {d e : ℕ} {pre : L.List Tok} {p : Parser} {f : TextFault} → d ≡ e → Faulty d pre p f → Faulty e pre p f
faulty_at {pre = pre} {p} {f} h x = subst (λ (n : ℕ). Faulty n pre p f) h x

pub parted_told : {allow : ℕ} {pre ts : L.List Tok} {p q : Parser} {made : Line} → ts ≡ pre → Parted allow ts p q made → Parted allow pre p q made
parted_told {allow} {p = p} {q} {made} e h = subst (λ (x : L.List Tok). Parted allow x p q made) e h

pub faulty_told : {allow : ℕ} {pre ts : L.List Tok} {p : Parser} {f : TextFault} → ts ≡ pre → Faulty allow ts p f → Faulty allow pre p f
faulty_told {allow} {p = p} {f} e h = subst (λ (x : L.List Tok). Faulty allow x p f) e h

-- an operator's token isn't the end
pub ahead_real : (h : Ahead) → ahead_tok h ≡ t_end → ⊥
ahead_real ahead.Next e = cc
ahead_real ahead.Always e = cc
