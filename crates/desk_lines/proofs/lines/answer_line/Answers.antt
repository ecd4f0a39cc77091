-- `answer_line` meets its contract.
use Prim.Native.Nat.{ℕ, ◌/◌, ◌≤◌}
use mathlib.Core.Path.{◌≡◌, sym, ◌∙◌}
use mathlib.Core.Bool.{true}
use mathlib.Core.List.{List}
use native.Mathlib.Omega.{arith}
use lib.ListN.{length, take}
use lib.Seq.{length-take-le}
use Rattle.frames.specs.Replying.{replied, shown_field}
use Rattle.desk_lines.proofs.Saying.{answered-unreadable, answered-frame, reply_agrees}
use Rattle.desk_lines.proofs.lines.answer_line.Goals as goal

pub put_line-wrote-requires : goal.put_line-wrote-requires
put_line-wrote-requires c = (rw c.plain-unreadable.ensures tt, omega (arith, c.requires.2.within))

pub returns-then-not-read_line : goal.returns-then-not-read_line
unfolding replied shown_field
returns-then-not-read_line c = let a = c.args in
    answered-unreadable a.state a.tables.now a.line.now (sym c.if-not-read_line.true ∙ c.read_line.ensures.is) c.requires.1 (rw c.plain-unreadable.ensures at c.put_line-wrote.ensures.0) c.put_line-wrote.ensures.1

pub slice_bounds-frame-end : goal.slice_bounds-frame-end
slice_bounds-frame-end c =
    let half : ℕ = length c.args.line.now / 2 in
    let readable : c.read_line.result ≡ true = c.if-not-read_line.false in
    let frame-within : half ≤ length c.read_line.new.raw = omega (arith, c.read_line.ensures.within readable, c.read_line.auto.raw, c.requires.2.frame) in
    frame-within

pub slice_bounds-frame-end-2 : goal.slice_bounds-frame-end-2
slice_bounds-frame-end-2 c =
    let half : ℕ = length c.args.line.now / 2 in
    let frame : List ℕ = take half c.read_line.new.raw in
    let readable : c.read_line.result ≡ true = c.if-not-read_line.false in
    let frame-within : half ≤ length c.read_line.new.raw = omega (arith, c.read_line.ensures.within readable, c.read_line.auto.raw, c.requires.2.frame) in
    let frame-length : half ≡ length frame = sym (length-take-le half c.read_line.new.raw frame-within) in
    frame-length

pub answer_frame-outcome-requires : goal.answer_frame-outcome-requires
answer_frame-outcome-requires c =
    let half : ℕ = length c.args.line.now / 2 in
    let frame : List ℕ = take half c.read_line.new.raw in
    let readable : c.read_line.result ≡ true = c.if-not-read_line.false in
    let frame-within : half ≤ length c.read_line.new.raw = omega (arith, c.read_line.ensures.within readable, c.read_line.auto.raw, c.requires.2.frame) in
    let frame-length : half ≡ length frame = sym (length-take-le half c.read_line.new.raw frame-within) in
    let frame-some : 1 ≤ length frame = omega (arith, c.read_line.ensures.some readable, frame-length) in
    (frame-some, c.requires.1, c.requires.2.result)

pub put_line-wrote-requires-2 : goal.put_line-wrote-requires-2
put_line-wrote-requires-2 c = (c.answer_frame-outcome.ensures.replies.within, c.requires.2.within)

pub keep_frame-kept-requires : goal.keep_frame-kept-requires
keep_frame-kept-requires c =
    let half : ℕ = length c.args.line.now / 2 in
    let frame : List ℕ = take half c.read_line.new.raw in
    let readable : c.read_line.result ≡ true = c.if-not-read_line.false in
    let frame-within : half ≤ length c.read_line.new.raw = omega (arith, c.read_line.ensures.within readable, c.read_line.auto.raw, c.requires.2.frame) in
    let frame-length : half ≡ length frame = sym (length-take-le half c.read_line.new.raw frame-within) in
    let frame-some : 1 ≤ length frame = omega (arith, c.read_line.ensures.some readable, frame-length) in
    (frame-some, c.requires.1, reply_agrees c.answer_frame-outcome.ensures.replies c.is_ok.ensures.value)

pub returns : goal.returns
returns c =
    let readable : c.read_line.result ≡ true = c.if-not-read_line.false in
    let a = c.args in
    answered-frame a.state a.tables.now a.line.now (sym readable ∙ c.read_line.ensures.is) (c.read_line.ensures.spells readable) c.answer_frame-outcome.ensures c.keep_frame-kept.ensures.is c.keep_frame-kept.ensures.keeps c.put_line-wrote-2.ensures.0 c.put_line-wrote-2.ensures.1
