-- `split_segment` meets its contract: a segment is two bytes and four for each AS of its count.
use Prim.Native.Nat.{◌+◌, ◌*◌}
use mathlib.Core.Path.{sym}
use native.Mathlib.Omega.{arith}
use lib.ListN.{take-append-drop}
use Rattle.rules.specs.Attributes.{segment_size}
use Rattle.as_path.proofs.Segments.{segment_cut}
use Rattle.as_path.proofs.split_segment.Goals as goal

pub returns-then-path-lt2 : goal.returns-then-path-lt2
returns-then-path-lt2 c = segment_cut c.args.path.now c.if-path-lt2.true

pub returns-then-path-size : goal.returns-then-path-size
unfolding segment_size
returns-then-path-size c = omega (arith, c.if-path-size.true, c.wide.ensures.0)

pub returns : goal.returns
unfolding segment_size
returns c = let parts = c.split_at.ensures in
    record { is = rw (parts.front, parts.back) (sym (take-append-drop (2 + 4 * c.wide.result) c.args.path.now)); size = omega (arith, parts.front_len, c.wide.ensures.0) }
