-- Reading on: one command more, or a refusal.
use Rattle.std.proofs.Common.{◌≡◌, ℕ, ◌+◌, ◌≤◌, Bool, true, false, cond, List, [], ◌∷◌, ◌++◌, length, sym, refl, ap, ◌∙◌, append_assoc, arith, length-append}
use Rattle.std.specs.List.{flat_map}
use Rattle.std.proofs.lemmas.List.{flat_map_more}
use Rattle.file.specs.File.{Command, begin, name, state, out, finish, encode}
use Rattle.file.specs.Reading.{Seen, none, Fails, Formed, Keeps, Refused, after, broken, code, due, nothing}
use Rattle.file.proofs.Once.{leads_push}
use Rattle.reader.specs.Sofar.{Sofar}

pub sofar_start : {input rest : List ℕ} {place : ℕ} → (rest ≡ input) × (place ≡ 0) → Sofar input rest place [] nothing
sofar_start start = record { leads = none; bytes = sym start.0; long = start.1 }

-- while a command is due the file goes on
going_on : (b : Bool) (n m : ℕ) → 1 ≤ m → m ≡ cond b 0 n → b ≡ false
going_on true n m some e = absurd (omega (arith, some, e))
going_on false n m some e = refl

some_code : (c : Command) → 1 ≤ code c
some_code (begin k n m) = omega arith
some_code (name i bytes) = omega arith
some_code (state marks counts) = omega arith
some_code (out t) = omega arith
some_code (finish total) = omega arith

due_going : (s : Seen) (c : Command) → code c ≡ due s → s.ended ≡ false
due_going s c d = going_on s.ended _ (code c) (some_code c) d

module _ {input rest : List ℕ} {place : ℕ} {cs : List Command} {s : Seen} (so : Sofar input rest place cs s) where
  -- these bytes are the next command
  pub sofar_more : (c : Command) {bytes rest' : List ℕ} {place' : ℕ} → Formed c → code c ≡ due s → Keeps s c → rest ≡ bytes ++ rest' → bytes ≡ encode c → place' ≡ place + length bytes →
      Sofar input rest' place' (cs ++ c ∷ []) (after s c)
  sofar_more c {bytes} {rest'} {place'} f d k stands spelled ends =
      let longer : flat_map encode cs ++ encode c ≡ flat_map encode (cs ++ c ∷ []) = flat_map_more encode [] cs c in
      let front : flat_map encode cs ++ bytes ≡ flat_map encode (cs ++ c ∷ []) = ap (λ (l : List ℕ). flat_map encode cs ++ l) spelled ∙ longer in
      record {
        leads = leads_push so.leads c f d k;
        bytes = so.bytes ∙ ap (λ (l : List ℕ). flat_map encode cs ++ l) stands ∙ sym (append_assoc (flat_map encode cs) bytes rest') ∙ ap (λ (l : List ℕ). l ++ rest') front;
        long = omega (arith, ends, so.long, length-append (flat_map encode cs) bytes, ap length front);
      }

  -- what comes next fails: it isn't the command that is due, or that breaks its rule
  pub refused : {number at : ℕ} → s.ended ≡ false → at ≡ place → Fails s rest number → Refused input number at
  refused going here fails = record { commands = cs; seen = s; rest = rest; leads = so.leads; going = going; bytes = so.bytes; place_is = here ∙ so.long; fails = fails }

  pub breaks : (c : Command) {bytes : List ℕ} (rest' : List ℕ) {at : ℕ} → Formed c → code c ≡ due s → rest ≡ bytes ++ rest' → bytes ≡ encode c → (Keeps s c → ⊥) → at ≡ place →
      Refused input (broken s c) at
  breaks c rest' f d stands spelled never here = refused (due_going s c d) here (Fails.breaks c rest' f (stands ∙ ap (λ (l : List ℕ). l ++ rest') spelled) d never)
