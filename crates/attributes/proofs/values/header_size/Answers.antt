-- `header_size` meets its contract, by the form of the length.
use mathlib.Core.Path.{sym, ◌∙◌}
use Rattle.attributes.proofs.ValueFaults.{header-long, header-short}
use Rattle.attributes.proofs.values.header_size.Goals as goal

pub returns-then-is_long : goal.returns-then-is_long
returns-then-is_long c = header-long c.args.flags (sym c.is_long.ensures ∙ c.if-is_long.true)

pub returns-else-is_long : goal.returns-else-is_long
returns-else-is_long c = header-short c.args.flags (sym c.is_long.ensures ∙ c.if-is_long.false)
