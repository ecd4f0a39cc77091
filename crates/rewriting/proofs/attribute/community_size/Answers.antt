-- `community_size` meets its contract: the sizes of the header, of the communities left and of the tag.
use Prim.Native.Nat.{◌+◌}
use mathlib.Core.Path.{ap}
use mathlib.Core.List.{◌++◌}
use native.Mathlib.Omega.{arith}
use lib.ListN.{length, get_or, length-append}
use Rattle.communities.specs.Tags.{tag_bytes}
use Rattle.rewriting.specs.Plan.{header, left_of}
use Rattle.rewriting.proofs.Headers.{length_bytes-le, header-length, community-none, community-some}
use Rattle.rewriting.proofs.attribute.community_size.Goals as goal

pub returns-then-left-eq0 : goal.returns-then-left-eq0
returns-then-left-eq0 c = (λ d e. omega (arith, ap length (community-none d c.args.state c.args.a.now (omega (arith, e, c.if-left-eq0.true)))), omega arith)

pub overflow_add-result : goal.overflow_add-result
overflow_add-result c = omega (arith, c.header_size.ensures, length_bytes-le c.value_flags.result)

pub returns : goal.returns
returns c = let a = c.args.a.now in
    let n = c.args.left + c.tag_size.result in (
      λ d e.
          omega (
            arith,
            e,
            c.header_size.ensures,
            c.tag_size.ensures.0,
            ap length (community-some d c.args.state a {n = n} (omega (arith, e)) (omega (arith, e, c.tag_size.ensures.0))),
            length-append (header (get_or a 0 0) (get_or a 1 0) n) (left_of d a ++ tag_bytes c.args.state),
            length-append (left_of d a) (tag_bytes c.args.state),
            header-length (get_or a 0 0) (get_or a 1 0) n c.value_flags.ensures,
          ),
      omega (arith, c.header_size.ensures, length_bytes-le c.value_flags.result),
    )
