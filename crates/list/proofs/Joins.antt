-- One addition after another.
use Rattle.std.proofs.Common.{◌≡◌, ◌+◌, ◌<◌, ◌≤◌, [], ◌∷◌, ◌++◌, length, take, drop, Ok, Err, Result, sym, refl, ap, ◌∙◌, subst, append_assoc, append-nil, arith, length-append, drop-drop, MatchResult}
use mathlib.Core.List as L
use Rattle.list.specs.declared.List.{List}
use Rattle.list.specs.declared.Full.{Full}
use Rattle.list.specs.Lists.{items, room, Emptied, Extends, Puts, Kept, Refilled}

pub extends_more : {T : Type 0} {s t u : List T} {xs ys : L.List T} → Extends s t xs → Extends t u ys → Extends s u (xs ++ ys)
extends_more {T} {s} {t} {u} {xs} {ys} a b =
    let far : t.count + length ys ≡ u.count = sym b.count in
    record {
      items = b.items ∙ ap (λ l. l ++ ys) a.items ∙ append_assoc (items s) xs ys;
      count = omega (arith, a.count, b.count, length-append xs ys);
      size = b.size ∙ a.size;
      rest = b.rest ∙ ap (λ n. drop n t.places.now) (sym far) ∙ sym (drop-drop (length ys) t.count t.places.now) ∙ ap (drop (length ys)) a.rest ∙ drop-drop (length ys) t.count s.places.now ∙ ap (λ n. drop n s.places.now) far;
    }

pub extends_none : {T : Type 0} (s : List T) → Extends s s []
extends_none s = record { items = sym (append-nil (items s)); count = omega arith; size = refl; rest = refl }

pub extends_room : {T : Type 0} {s t : List T} {xs : L.List T} → Extends s t xs → room s ≡ length xs + room t
extends_room {s = s} {t = t} e = omega (arith, e.count, e.size, t.within)

-- an addition to a list with room for it
pub added : {T : Type 0} {s t : List T} {x : T} (r : Result Unit Full) → 0 < room s → MatchResult r (λ _. (0 < room s) × Puts s t (x ∷ [])) (λ _. (room s ≡ 0) × Kept s t) → Puts s t (x ∷ [])
added (Ok u) h c = c.1
added (Err f) h c = absurd (omega arith)

-- an emptied list that is extended holds just what was added
pub refilled : {T : Type 0} {s m t : List T} {xs : L.List T} → Emptied s m → Puts m t xs → Refilled s t xs
refilled {s = s} {m} {t} {xs} e p = let x = p.extends in record {
  named = p.named ∙ e.named;
  items = x.items ∙ ap (λ n. take n m.places.now ++ xs) e.count;
  count = omega (arith, e.count, x.count);
  size = x.size ∙ ap length e.places;
  rest = x.rest ∙ ap (drop t.count) e.places;
}

-- an extension of a list with room for it
pub extended : {T : Type 0} {s t : List T} {xs : L.List T} (r : Result Unit Full) → length xs ≤ room s → MatchResult r (λ _. (length xs ≤ room s) × Puts s t xs) (λ _. (room s < length xs) × Kept s t) → Puts s t xs
extended (Ok u) h c = c.1
extended (Err f) h c = absurd (omega arith)

pub puts_none : {T : Type 0} (s : List T) → Puts s s []
puts_none s = record { extends = extends_none s; named = refl }

pub puts_more : {T : Type 0} {s t u : List T} {xs ys : L.List T} → Puts s t xs → Puts t u ys → Puts s u (xs ++ ys)
puts_more a b = record { extends = extends_more a.extends b.extends; named = b.named ∙ a.named }

pub puts_room : {T : Type 0} {s t : List T} {xs : L.List T} → Puts s t xs → room s ≡ length xs + room t
puts_room a = extends_room a.extends

pub puts_same : {T : Type 0} {s t : List T} {xs ys : L.List T} → xs ≡ ys → Puts s t xs → Puts s t ys
puts_same {s = s} {t} e a = subst (Puts s t) e a
