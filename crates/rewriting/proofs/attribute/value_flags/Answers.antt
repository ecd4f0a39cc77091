-- By the three forms: long, short, and short that becomes long.
use mathlib.Core.Path.{sym, ◌∙◌}
use native.Mathlib.Omega.{arith}
use Rattle.rewriting.proofs.Headers.{long-room, flags_long, flags-short, flags_widened}
use Rattle.rewriting.proofs.attribute.value_flags.Goals as goal

pub returns-then-is_long : goal.returns-then-is_long
returns-then-is_long c = let a = c.args in flags_long a.flags a.n (sym c.is_long.ensures ∙ c.if-is_long.true)

pub returns-then-n-le255 : goal.returns-then-n-le255
returns-then-n-le255 c = let a = c.args in flags-short a.flags a.n (sym c.is_long.ensures ∙ c.if-is_long.false) (omega arith)

pub overflow_add-result : goal.overflow_add-result
overflow_add-result c = record { fits = long-room c.args.flags c.ranges.flags.fits (sym c.is_long.ensures ∙ c.if-is_long.false) }

pub returns : goal.returns
returns c = let a = c.args in flags_widened a.flags a.n (sym c.is_long.ensures ∙ c.if-is_long.false) (omega arith)
