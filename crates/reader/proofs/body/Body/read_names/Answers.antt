use Rattle.std.proofs.Common.{◌≡◌, ℕ, ◌+◌, List, [], ◌∷◌, ◌++◌, length, sym, refl, subst, arith}
use Rattle.std.proofs.lemmas.List.{length_push}
use Rattle.std.proofs.lemmas.Result.{err_from_is_err_and}
use Rattle.file.specs.File.{Command}
use Rattle.legend.specs.Names.{Lawful}
use Rattle.legend.specs.Legends.{names_of}
use Rattle.reader.specs.Sofar.{Sofar, named, opening}
use Rattle.reader.proofs.Naming.{name_due, names_more}
use Rattle.reader.proofs.body.Body.read_names.Goals as goal

pub returns-in_err-read_name-clause-reads : goal.returns-in_err-read_name-clause-reads
returns-in_err-read_name-clause-reads c input so =
    let inv = c.loop.invariant.1 input so in
    let p = err_from_is_err_and c.from_residual.result c.from_residual.ensures.1 in
    rw (p.1, p.2) (c.in_err-read_name.ensures input _ _ inv.0
    (name_due c.args.self.now.header (names_of c.loop.legend) (omega (arith, inv.1, c.loop-test.true))) refl inv.2)

pub loop-preserved : goal.loop-preserved
loop-preserved c = (
  c.loop.invariant.0,
  λ input so.
      let h = c.args.self.now.header in
      let names = names_of c.loop.legend in
      let inv = c.loop.invariant.1 input so in
      let told = c.in_ok-read_name.ensures input _ _ inv.0 (name_due h names (omega (arith, inv.1, c.loop-test.true))) refl inv.2 in
      let P : List (List ℕ) → Type 0 = λ l. Sofar input c.read_name.new.cursor.rest.now c.read_name.new.cursor.place (opening h l) (named h l) × (length l ≡ c.loop.counter + 1) × Lawful l in
      subst P (sym told.2) (
        subst (λ (cs : List Command). Sofar input c.read_name.new.cursor.rest.now c.read_name.new.cursor.place cs (named h (names ++ told.0 ∷ []))) (names_more h names told.0) told.1,
        omega (arith, length_push names told.0, inv.1),
        subst Lawful told.2 told.3,
      ),
)

pub returns-in_err-read_name-clause-header : goal.returns-in_err-read_name-clause-header
returns-in_err-read_name-clause-header c = c.loop.invariant.0

pub returns-clause-header : goal.returns-clause-header
returns-clause-header c = c.loop.invariant.0

pub returns-clause-reads : goal.returns-clause-reads
returns-clause-reads c input so = let inv = c.loop.invariant.1 input so in (inv.0, omega (arith, inv.1, c.loop-test.false, c.loop.auto.counter-end), inv.2)
