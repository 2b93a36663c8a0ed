use Rattle.std.proofs.Common.{◌≡◌, ℕ, ◌+◌, ◌-◌, ◌<◌, List, [], ◌∷◌, ◌++◌, length, get_or, take, drop, sym, ap, ◌∙◌, subst, append_assoc, arith, length-take-le}
use Rattle.std.proofs.lemmas.List.{get_or_append_left}
use Rattle.std.proofs.lemmas.Result.{err_from_is_err_and}
use Rattle.model.specs.Model.{everyone, moves}
use Rattle.model.specs.Kinds.{counts_at}
use Rattle.file.specs.File.{Command, state, out, upto}
use Rattle.file.specs.Reading.{Seen, after}
use Rattle.file.proofs.Filing.{due_state}
use Rattle.reader.specs.Heads.{HeadOf, Naming, out_command}
use Rattle.reader.specs.declared.head.Head.{Head}
use Rattle.reader.specs.declared.header.Header.{Header}
use Rattle.reader.specs.Sofar.{Sofar}
use Rattle.reader.proofs.Naming.{upto_same}
use Rattle.reader.proofs.body.Body.read_state.Goals as goal

-- what the state's own command leaves to come
module _ (h : Header) (head : Head) (of : HeadOf h head) (s : Seen) (n : Naming s) where
  to_come : Naming (after s (state head.state.marks head.state.counts))
  to_come = record { going = n.going; some = n.some; all = n.all }

  lacks : s.k ≡ h.agents → moves everyone (counts_at head.state) s.k ≡ head.joint
  lacks k = ap (moves everyone (counts_at head.state)) k ∙ sym of.joint

-- outcomes in front of others
module _ (xs ys : List ℕ) (joint : ℕ) (long : length xs ≡ joint) where
  front_commands : upto (out_command xs) (length xs) ≡ upto (out_command (xs ++ ys)) joint
  front_commands =
      upto_same (out_command xs) (out_command (xs ++ ys)) (length xs) (λ j l. ap (λ (x : ℕ). out x ∷ []) (sym (get_or_append_left xs ys 0 j l))) ∙ ap (upto (out_command (xs ++ ys))) long

  front_inside : (n j : ℕ) → ((i : ℕ) → i < length xs → get_or xs i 0 < n) → j < joint → get_or (xs ++ ys) j 0 < n
  front_inside n j inside l = let within : j < length xs = omega (arith, long, l) in omega (arith, inside j within, get_or_append_left xs ys 0 j within)

pub returns-in_err-read_outs-clause-reads : goal.returns-in_err-read_outs-clause-reads
returns-in_err-read_outs-clause-reads c input cs s so n left states k m few =
    let head = c.in_ok-state.field-0 in
    let told = c.in_ok-state.ensures in
    let so1 = told.reads input cs s so n.going (due_state s n.going n.some n.all left states) k m in
    let long = length-take-le head.joint head.state.outcomes (omega (arith, told.head.joint, told.head.counts.ranged.product)) in
    let p = err_from_is_err_and c.from_residual-in_err-read_outs.result c.from_residual-in_err-read_outs.ensures.1 in
    rw (p.1, p.2) (c.in_err-read_outs.ensures.reads input _ _ so1 (to_come c.args.self.now.header head told.head s n) (lacks c.args.self.now.header head told.head s n k ∙ sym long) (few ∙ sym (ap (λ (h : Header). h.states) told.header)))

pub returns : goal.returns
returns c =
    let agents = c.args.self.now.header.agents in
    let head = c.in_ok-state.field-0 in
    let told = c.in_ok-state.ensures in
    let read = c.in_ok-read_outs.ensures in
    let xs = c.read_outs.new.outcomes in
    let ys = drop head.joint head.state.outcomes in
    let taken : length (take head.joint head.state.outcomes) ≡ head.joint = length-take-le head.joint head.state.outcomes (omega (arith, told.head.joint, told.head.counts.ranged.product)) in
    let long : length xs ≡ head.joint = omega (arith, taken, c.read_outs.auto.outcomes) in
    let states : c.read_head.new.self.header.states ≡ c.args.self.now.header.states = ap (λ (h : Header). h.states) told.header in
    record {
      header = told.header;
      kept = (
        record {
          six = told.head.six;
          declared = told.head.declared;
          counts = told.head.counts;
          inside = λ j l. front_inside xs ys head.joint long c.args.self.now.header.states j (subst (λ (n : ℕ). (i : ℕ) → i < length xs → get_or xs i 0 < n) states read.inside) (omega (arith, l, told.head.joint));
        },
        told.head.joint,
      );
      reads = λ input cs s so n left before k m few.
          let so1 = told.reads input cs s so n.going (due_state s n.going n.some n.all left before) k m in
          let none = lacks c.args.self.now.header head told.head s n k in
          let so2 = read.reads input _ _ so1 (to_come c.args.self.now.header head told.head s n) (none ∙ sym taken) (few ∙ sym states) in
          let own = state head.state.marks head.state.counts in
          let same : (cs ++ own ∷ []) ++ upto (out_command xs) (length xs) ≡ cs ++ own ∷ upto (out_command (xs ++ ys)) (moves everyone (counts_at head.state) agents) =
          append_assoc cs (own ∷ []) (upto (out_command xs) (length xs))
          ∙ ap (λ (l : List Command). cs ++ own ∷ l) (front_commands xs ys head.joint long ∙ ap (upto (out_command (xs ++ ys))) told.head.joint) in
          let P : List Command → ℕ → ℕ → Type 0 = λ l i j.
          Sofar input c.read_outs.new.cursor.rest.now c.read_outs.new.cursor.place l (record s { states = s.states + 1; left = i; outs = s.outs + j }) in
          let left_none : moves everyone (counts_at head.state) s.k - length xs ≡ 0 = omega (arith, none, long) in
          subst (λ (l : List Command). P l 0 head.joint) same
          (subst (λ (i : ℕ). P ((cs ++ own ∷ []) ++ upto (out_command xs) (length xs)) i head.joint) left_none
          (subst (P ((cs ++ own ∷ []) ++ upto (out_command xs) (length xs)) (moves everyone (counts_at head.state) s.k - length xs)) long so2));
    }
