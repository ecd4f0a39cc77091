-- `put_header` meets its contract, by the two forms of a header.
use mathlib.Core.Path.{sym, ◌∙◌}
use native.Mathlib.Omega.{arith}
use Rattle.rewriting.proofs.Headers.{header-long, header-short, short-length}
use Rattle.rewriting.proofs.attribute.put_header.Goals as goal

pub put-requires : goal.put-requires
put-requires c = rw (header-long c.args.flags c.args.kind c.args.n c.value_flags-new_flags.ensures (sym c.is_long.ensures ∙ c.if-is_long.true)) at c.requires.1

pub returns-then-is_long : goal.returns-then-is_long
returns-then-is_long c = let a = c.args in
    rw (header-long a.flags a.kind a.n c.value_flags-new_flags.ensures (sym c.is_long.ensures ∙ c.if-is_long.true)) c.put.ensures

pub overflow_cast-bytes-2 : goal.overflow_cast-bytes-2
overflow_cast-bytes-2 c = let a = c.args in
    omega (arith, short-length a.flags a.kind a.n c.value_flags-new_flags.ensures (sym c.is_long.ensures ∙ c.if-is_long.false))

pub put-requires-2 : goal.put-requires-2
put-requires-2 c = rw (header-short c.args.flags c.args.kind c.args.n c.value_flags-new_flags.ensures (sym c.is_long.ensures ∙ c.if-is_long.false)) at c.requires.1

pub returns : goal.returns
returns c = let a = c.args in
    rw (header-short a.flags a.kind a.n c.value_flags-new_flags.ensures (sym c.is_long.ensures ∙ c.if-is_long.false)) c.put-2.ensures
