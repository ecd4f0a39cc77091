-- A `u32` is never above 4,294,967,295.
use mathlib.Core.Bool.{and-true}
use native.Mathlib.Omega.{arith}
use borrow.Author.Tests.{le-leb}
use Rattle.rules.specs.Settings.{as_ok}
use Rattle.settings.proofs.ranges.as_ok.Goals as goal

pub returns : goal.returns
unfolding as_ok
returns c = rw (le-leb c.args.n 4294967295 (omega arith), and-true)
