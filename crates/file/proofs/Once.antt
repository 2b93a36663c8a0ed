-- A file is read in one way only: the same bytes never give two answers.
use Rattle.std.proofs.Common.{◌≡◌, ℕ, ◌+◌, ◌*◌, ◌≤◌, true, false, cond, eqb, ltb, ◌⊎◌, List, [], ◌∷◌, ◌++◌, length, get_or, take, drop, sym, refl, ap, ◌∙◌, subst, inl, inr, arith}
use Rattle.std.specs.List.{flat_map}
use Rattle.std.proofs.lemmas.List.{append_assoc, append_cancel_left, length-append, take_at}
use Rattle.std.proofs.lemmas.Bool.Decides.{nat_tests}
use Rattle.std.proofs.lemmas.Bool.{cond-true, true≢false}
use Rattle.file.specs.File.{Command, begin, name, state, out, finish, encode}
use Rattle.file.specs.Reading.{code, size, Formed, Seen, nothing, due, after, Keeps, broken, Leads, none, more, Fails, absent, other, short, breaks, Refused}

-- the command that stands at the front of some bytes, if a whole one stands there
abbrev pub decode : List ℕ → Command
decode xs =
    cond (eqb (get_or xs 0 0) 1) (begin (get_or xs 1 0) (get_or xs 2 0) (get_or xs 3 0))
    (cond (eqb (get_or xs 0 0) 2) (name (get_or xs 1 0) (take 8 (drop 2 xs)))
    (cond (eqb (get_or xs 0 0) 3) (state (get_or xs 1 0 * 256 + get_or xs 2 0) (take 6 (drop 3 xs)))
    (cond (eqb (get_or xs 0 0) 4) (out (get_or xs 1 0))
    (finish (get_or xs 1 0 * 256 + get_or xs 2 0)))))

pub decode-encode : (c : Command) → Formed c → (r : List ℕ) → decode (encode c ++ r) ≡ c
decode-encode (begin k n m) f r = refl
decode-encode (name i bytes) f r = ap (name i) (take_at bytes r 8 f)
decode-encode (state marks counts) f r =
    ap (λ (x : ℕ). state x (take 6 (counts ++ r))) (omega arith) ∙ ap (state marks) (take_at counts r 6 f)
decode-encode (out t) f r = refl
decode-encode (finish total) f r = ap finish (omega arith)

-- what follows the code
abbrev pub operands : Command → List ℕ
operands c = drop 1 (encode c)

pub encode_parts : (c : Command) → encode c ≡ code c ∷ operands c
encode_parts (begin k n m) = refl
encode_parts (name i bytes) = refl
encode_parts (state marks counts) = refl
encode_parts (out t) = refl
encode_parts (finish total) = refl

pub operands_length : (c : Command) → Formed c → length (operands c) ≡ size (code c)
operands_length (begin k n m) f = refl
operands_length (name i bytes) f = omega arith
operands_length (state marks counts) f = omega arith
operands_length (out t) f = refl
operands_length (finish total) f = refl

-- no command has the code 0
pub code_some : (c : Command) → code c ≡ 0 → ⊥
code_some (begin k n m) e = omega arith
code_some (name i bytes) e = omega arith
code_some (state marks counts) e = omega arith
code_some (out t) e = omega arith
code_some (finish total) e = omega arith

-- two commands at the front of the same bytes are the same
pub encode_once : (c d : Command) (r q : List ℕ) → Formed c → Formed d → encode c ++ r ≡ encode d ++ q → c ≡ d
encode_once c d r q f g e = sym (decode-encode c f r) ∙ ap decode e ∙ decode-encode d g q

pub leads_append : {s t u : Seen} {cs ds : List Command} → Leads s cs t → Leads t ds u → Leads s (cs ++ ds) u
leads_append none b = b
leads_append (more c f d k a) b = more c f d k (leads_append a b)

pub leads_push : {s t : Seen} {cs : List Command} → Leads s cs t → (c : Command) → Formed c → code c ≡ due t → Keeps t c → Leads s (cs ++ c ∷ []) (after t c)
leads_push a c f d k = leads_append a (more c f d k none)

-- bytes at whose front a command stands whole: its code, and then as many as the code says
pub front : (c : Command) (r : List ℕ) → encode c ++ r ≡ code c ∷ (operands c ++ r)
front c r = ap (λ (x : List ℕ). x ++ r) (encode_parts c)

pub long : (c : Command) (r : List ℕ) → Formed c → size (code c) ≤ length (operands c ++ r)
long c r f = omega (arith, length-append (operands c) r, operands_length c f)

pub fails_not : (s : Seen) (c : Command) (r rest : List ℕ) (number : ℕ) → Formed c → code c ≡ due s → Keeps s c → rest ≡ encode c ++ r → Fails s rest number → ⊥
fails_not s c r rest number f d k e (absent a) = grind (arith, front c r)
fails_not s c r rest number f d k e (other b x a h) = grind (arith, front c r)
fails_not s c r rest number f d k e (short x a l) = grind (arith, front c r, long c r f)
fails_not s c r rest number f d k e (breaks b x g a o h) =
    h (subst (Keeps s) (encode_once c b r x f g (sym e ∙ a)) k)

-- the number of the refusal, told from the bytes alone
abbrev verdict : Seen → List ℕ → ℕ
verdict s [] = 1
verdict s (b ∷ r) = cond (eqb b (due s)) (cond (ltb (length r) (size (due s))) 1 (broken s (decode (b ∷ r)))) 2

fails_verdict : {s : Seen} {rest : List ℕ} {a : ℕ} → Fails s rest a → a ≡ verdict s rest
fails_verdict (absent e) = grind arith
fails_verdict (other b r e h) = grind (arith, nat_tests)
fails_verdict (short r e l) = grind (arith, nat_tests)
fails_verdict (breaks c r f e d h) = grind (arith, nat_tests, front c r, decode-encode c f r, long c r f)

pub fails_once : {s : Seen} {rest : List ℕ} {a b : ℕ} → Fails s rest a → Fails s rest b → a ≡ b
fails_once x y = fails_verdict x ∙ sym (fails_verdict y)

-- a command stands whole at the front of the bytes, is due and keeps its rule
pub record Next (s : Seen) (bytes : List ℕ) : Type 0 where
  pub command : Command
  pub rest : List ℕ
  pub formed : Formed command
  pub on_time : code command ≡ due s
  pub keeps : Keeps s command
  pub stands : bytes ≡ encode command ++ rest

-- two readings of the same bytes are the same, or one of them goes on where the other stops
pub compare : {s t u : Seen} {cs ds : List Command} (r q : List ℕ) → Leads s cs t → Leads s ds u → flat_map encode cs ++ r ≡ flat_map encode ds ++ q →
    ((cs ≡ ds) × (t ≡ u) × (r ≡ q)) ⊎ (Next t r ⊎ Next u q)
compare r q none none e = inl (refl, refl, e)
compare r q none (more {cs = ds} c f d k b) e =
    inr (inl (record { command = c; rest = flat_map encode ds ++ q; formed = f; on_time = d; keeps = k; stands = e ∙ append_assoc (encode c) (flat_map encode ds) q }))
compare r q (more {cs = cs} c f d k a) none e =
    inr (inr (record { command = c; rest = flat_map encode cs ++ r; formed = f; on_time = d; keeps = k; stands = sym e ∙ append_assoc (encode c) (flat_map encode cs) r }))
compare {s} {t} {u} r q (more {cs = cs} c f d k a) (more {cs = ds} c' f' d' k' b) e =
    let whole : encode c ++ (flat_map encode cs ++ r) ≡ encode c' ++ (flat_map encode ds ++ q) =
    sym (append_assoc (encode c) (flat_map encode cs) r) ∙ e ∙ append_assoc (encode c') (flat_map encode ds) q in
    let same : c ≡ c' = encode_once c c' (flat_map encode cs ++ r) (flat_map encode ds ++ q) f f' whole in
    let tails : flat_map encode cs ++ r ≡ flat_map encode ds ++ q =
    append_cancel_left (encode c) (flat_map encode cs ++ r) (flat_map encode ds ++ q) (whole ∙ ap (λ (x : Command). encode x ++ (flat_map encode ds ++ q)) (sym same)) in
    let b' : Leads (after s c) ds u = subst (λ (x : Command). Leads (after s x) ds u) (sym same) b in
    elim (compare r q a b' tails) [
      | inl (x, y, z) ↦ inl (cc, y, z)
      | inr n ↦ inr n
    ]

-- where a reading fails no command goes on, and none goes on after END
pub next_fails : {s : Seen} {bytes : List ℕ} {number : ℕ} → Next s bytes → Fails s bytes number → ⊥
next_fails {s} {bytes} {number} x h = fails_not s x.command x.rest bytes number x.formed x.on_time x.keeps x.stands h

pub next_ended : {s : Seen} {bytes : List ℕ} → Next s bytes → s.ended ≡ true → ⊥
next_ended {s} x h = code_some x.command (x.on_time ∙ cond-true s.ended 0 _ h)

pub refused_once : {input : List ℕ} {a b p q : ℕ} → Refused input a p → Refused input b q → (a ≡ b) × (p ≡ q)
refused_once {input} {a} {b} x y =
    elim (compare x.rest y.rest x.leads y.leads (sym x.bytes ∙ y.bytes)) [
      | inl (cs, t, r) ↦ (
        fails_once x.fails (subst (λ (s : Seen). Fails s x.rest b) (sym t) (subst (λ (l : List ℕ). Fails y.seen l b) (sym r) y.fails)),
        x.place_is ∙ ap (λ (l : List Command). length (flat_map encode l)) cs ∙ sym y.place_is,
      )
      | inr (inl n) ↦ absurd (next_fails n x.fails)
      | inr (inr n) ↦ absurd (next_fails n y.fails)
    ]

pub ended_once : {cs ds : List Command} {t u : Seen} {r q : List ℕ} → Leads nothing cs t → t.ended ≡ true → Leads nothing ds u → u.ended ≡ true →
    flat_map encode cs ++ r ≡ flat_map encode ds ++ q → (cs ≡ ds) × (r ≡ q)
ended_once {r = r} {q = q} a h b k e =
    elim (compare r q a b e) [
      | inl (cs, t, rest) ↦ (cs, rest)
      | inr (inl n) ↦ absurd (next_ended n h)
      | inr (inr n) ↦ absurd (next_ended n k)
    ]

pub ended_never : {cs : List Command} {t : Seen} {input : List ℕ} {a p : ℕ} (r : List ℕ) → Leads nothing cs t → t.ended ≡ true → input ≡ flat_map encode cs ++ r →
    Refused input a p → ⊥
ended_never r a h e x =
    elim (compare r x.rest a x.leads (sym e ∙ x.bytes)) [
      | inl (cs, t, rest) ↦ let z : true ≡ false = sym h ∙ ap (λ (s : Seen). s.ended) t ∙ x.going in true≢false z
      | inr (inl n) ↦ next_ended n h
      | inr (inr n) ↦ next_fails n x.fails
    ]
