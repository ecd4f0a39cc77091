-- `check_table` meets its contract, by the laws of a table.
use Rattle.rules.specs.Answers.{told}
use Rattle.vrps.specs.Widths.{bits}
use Rattle.vrp_tables.proofs.Tables.{table_torn, table-long, table_bad, table-good}
use Rattle.vrp_tables.proofs.check_table.Goals as goal

pub returns-then-table-size-ne0 : goal.returns-then-table-size-ne0
unfolding told
returns-then-table-size-ne0 c = let a = c.args in table_torn (bits a.family) a.table.now (rw c.record_size-size.ensures.0 at c.if-table-size-ne0.true)

pub returns-then-size-table : goal.returns-then-size-table
unfolding told
returns-then-size-table c = let a = c.args in
    table-long (bits a.family) a.table.now (rw c.record_size-size.ensures.0 at c.if-table-size-ne0.false) (rw c.record_size-size.ensures.0 at c.if-size-table.true)

pub first_bad-bad-requires : goal.first_bad-bad-requires
first_bad-bad-requires c = rw c.record_size-size.ensures.0 at c.if-table-size-ne0.false

pub returns-then-bad-count : goal.returns-then-bad-count
unfolding told
returns-then-bad-count c = let a = c.args in
    table_bad (bits a.family) a.table.now (rw c.record_size-size.ensures.0 at c.if-table-size-ne0.false) (rw c.record_size-size.ensures.0 at c.if-size-table.false)
    c.first_bad-bad.ensures (rw c.record_size-size.ensures.0 at c.if-bad-count.true)

pub returns : goal.returns
unfolding told
returns c = let a = c.args in
    rw c.record_size-size.ensures.0
    (table-good (bits a.family) a.table.now (rw c.record_size-size.ensures.0 at c.if-table-size-ne0.false) (rw c.record_size-size.ensures.0 at c.if-size-table.false)
    c.first_bad-bad.ensures (rw c.record_size-size.ensures.0 at c.if-bad-count.false))
