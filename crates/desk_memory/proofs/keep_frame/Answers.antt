-- `keep_frame` meets its contract, by the kind of the frame.
use mathlib.Core.Path.{refl}
use mathlib.Core.Logic.{⊎_elim}
use borrow.Author.Tests.{ne_eqb}
use Rattle.rules.specs.Origin.{ipv4}
use Rattle.desk_memory.specs.declared.kinds.Ip.TheVariants.{V4, V6}
use Rattle.octets.proofs.Slices.{tail_is}
use Rattle.desk_memory.specs.declared.kinds.Kind.TheVariants.{Session, Vrp}
use Rattle.desk_memory.specs.Sizes.{table_max}
use Rattle.desk_memory.specs.Keeping.{kept_session}
use Rattle.desk_memory.proofs.Tabling.{record-fits}
use Rattle.desk_memory.proofs.ByKind.{lent-end, kept-long, kept_session_lem, kept-other, kept-receipt, kept-refused, taken-vrp, taken_vrp6, kept-vrp, kept_vrp6}
use Rattle.desk_memory.proofs.keep_frame.Goals as goal

pub returns-in_default : goal.returns-in_default
returns-in_default c = let a = c.args in
    let n = c.in_default.ensures in
    record {
      is = kept-other a.kept a.tables.now a.frame.now c.requires.2 (ne_eqb _ _ (n Session)) (ne_eqb _ _ (n (Vrp V4))) (ne_eqb _ _ (n (Vrp V6)));
      keeps = c.requires.1;
    }

pub keep_session-requires : goal.keep_session-requires
keep_session-requires c = let a = c.args in
    kept-long a.kept a.tables.now a.frame.now c.requires.2 (rw c.in-Session.is at c.in-Some.ensures)

pub returns-in-Session : goal.returns-in-Session
unfolding kept_session
returns-in-Session c = let a = c.args in
    let k = c.keep_session.ensures in
    record {
      is = kept_session_lem a.kept a.tables.now a.frame.now c.requires.2 (rw c.in-Session.is at c.in-Some.ensures) k;
      keeps = rw k (record { room = c.requires.1.room; four = c.requires.1.four; six = c.requires.1.six });
    }

pub returns-in-Receipt : goal.returns-in-Receipt
returns-in-Receipt c = let a = c.args in
    record {
      is =
          ⊎_elim (λ r. kept-receipt a.kept a.tables.now a.frame.now c.requires.2 r.0 (rw r.1 at c.in-Some.ensures))
          (λ e.
          let b = rw e at c.in-Some.ensures in
          kept-other a.kept a.tables.now a.frame.now c.requires.2 (rw b refl) (rw b refl) (rw b refl))
          c.in-Receipt.is;
      keeps = c.requires.1;
    }

pub returns-then-not-taken : goal.returns-then-not-taken
returns-then-not-taken c = let a = c.args in
    record { is = kept-refused a.kept a.tables.now a.frame.now c.requires.2 c.in-Vrp.ip (rw c.in-Vrp.is at c.in-Some.ensures) c.if-not-taken.true; keeps = c.requires.1 }

pub put-used-requires : goal.put-used-requires
put-used-requires c = let a = c.args in
    let t = taken-vrp a.kept a.tables.now a.frame.now c.requires.2 c.requires.1 c.if-not-taken.false (rw (c.in-Vrp.is, c.in-V4.is) at c.in-Some.ensures) in
    record-fits c.requires.1.four a.frame.now t refl (tail_is a.frame.now 1)

pub returns-in-V4 : goal.returns-in-V4
returns-in-V4 c = let a = c.args in
    kept-vrp a.kept a.tables.now a.frame.now c.requires.2 c.requires.1 c.if-not-taken.false (rw (c.in-Vrp.is, c.in-V4.is) at c.in-Some.ensures)
    (rw (tail_is a.frame.now 1) at c.put-used.ensures)

pub put-used6-requires : goal.put-used6-requires
put-used6-requires c = let a = c.args in
    let t = taken_vrp6 a.kept a.tables.now a.frame.now c.requires.2 c.requires.1 c.if-not-taken.false (rw (c.in-Vrp.is, c.in-V6.is) at c.in-Some.ensures) in
    record-fits c.requires.1.six a.frame.now t (tail_is a.tables.now (table_max ipv4)) (tail_is a.frame.now 1)

pub returns-in-V6 : goal.returns-in-V6
returns-in-V6 c = let a = c.args in
    kept_vrp6 a.kept a.tables.now a.frame.now c.requires.2 c.requires.1 c.if-not-taken.false (rw (c.in-Vrp.is, c.in-V6.is) at c.in-Some.ensures)
    (rw (tail_is a.frame.now 1, tail_is a.tables.now (table_max ipv4)) at c.put-used6.ensures) (lent-end c.requires.1)
