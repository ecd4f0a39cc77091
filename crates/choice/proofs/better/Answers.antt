-- `better` meets its contract: the slice handed back is one of the two parameters.
use mathlib.Core.Path.{◌≡◌, refl, sym, ap, ◌∙◌}
use mathlib.Core.Bool.{false}
use Rattle.rules.specs.Answers.{told}
use Rattle.rules.specs.Choice.{Candidate, bad_candidate, Shows}
use Rattle.choice.proofs.Candidates.{range_bad, fault_bad, clean-good, clean_reads}
use Rattle.choice.proofs.Choosing.{better-first, better_second, better-neither, compared}
use Rattle.choice.proofs.better.Goals as goal

pub returns-then-out_of_range : goal.returns-then-out_of_range
unfolding told Shows
returns-then-out_of_range c =
    let first : Candidate = record { block = c.args.a.now; state = c.args.sender.state; identifier = c.args.sender.identifier; address = c.args.sender.address } in
    let second : Candidate = record { block = c.args.b.now; state = c.args.other.state; identifier = c.args.other.identifier; address = c.args.other.address } in
    rw (better-first first second (range_bad first c.out_of_range.ensures c.if-out_of_range.true)) (compared (ap told c.bad.ensures.0) c.bad.ensures.1)

pub returns-in_default : goal.returns-in_default
unfolding told Shows
returns-in_default c =
    let first : Candidate = record { block = c.args.a.now; state = c.args.sender.state; identifier = c.args.sender.identifier; address = c.args.sender.address } in
    let second : Candidate = record { block = c.args.b.now; state = c.args.other.state; identifier = c.args.other.identifier; address = c.args.other.address } in
    rw (better-first first second (fault_bad first c.out_of_range.ensures c.if-out_of_range.false c.read.ensures c.in_default.is)) (compared (ap told c.bad-in_default.ensures.0) c.bad-in_default.ensures.1)

pub returns-then-out_of_range-2 : goal.returns-then-out_of_range-2
unfolding told Shows
returns-then-out_of_range-2 c =
    let first : Candidate = record { block = c.args.a.now; state = c.args.sender.state; identifier = c.args.sender.identifier; address = c.args.sender.address } in
    let second : Candidate = record { block = c.args.b.now; state = c.args.other.state; identifier = c.args.other.identifier; address = c.args.other.address } in
    let first_good : bad_candidate first ≡ false = clean-good first c.out_of_range.ensures c.if-out_of_range.false c.read.ensures c.in-Ok.is in
    rw (better_second first second first_good (range_bad second c.out_of_range-2.ensures c.if-out_of_range-2.true)) (compared (ap told c.bad-then-out_of_range-2.ensures.0) c.bad-then-out_of_range-2.ensures.1)

pub returns-in_default-read : goal.returns-in_default-read
unfolding told Shows
returns-in_default-read c =
    let first : Candidate = record { block = c.args.a.now; state = c.args.sender.state; identifier = c.args.sender.identifier; address = c.args.sender.address } in
    let second : Candidate = record { block = c.args.b.now; state = c.args.other.state; identifier = c.args.other.identifier; address = c.args.other.address } in
    let first_good : bad_candidate first ≡ false = clean-good first c.out_of_range.ensures c.if-out_of_range.false c.read.ensures c.in-Ok.is in
    rw (better_second first second first_good (fault_bad second c.out_of_range-2.ensures c.if-out_of_range-2.false c.read-2.ensures c.in_default-read.is)) (compared (ap told c.bad-in_default-read.ensures.0) c.bad-in_default-read.ensures.1)

pub keys_of-x-requires : goal.keys_of-x-requires
keys_of-x-requires c = clean_reads _ c.read.ensures c.in-Ok.is

pub keys_of-y-requires : goal.keys_of-y-requires
keys_of-y-requires c = clean_reads _ c.read-2.ensures c.in-Ok-read.is

pub returns-then-goes_before : goal.returns-then-goes_before
unfolding told Shows
returns-then-goes_before c =
    let first : Candidate = record { block = c.args.a.now; state = c.args.sender.state; identifier = c.args.sender.identifier; address = c.args.sender.address } in
    let second : Candidate = record { block = c.args.b.now; state = c.args.other.state; identifier = c.args.other.identifier; address = c.args.other.address } in
    let first_good : bad_candidate first ≡ false = clean-good first c.out_of_range.ensures c.if-out_of_range.false c.read.ensures c.in-Ok.is in
    let second-good : bad_candidate second ≡ false = clean-good second c.out_of_range-2.ensures c.if-out_of_range-2.false c.read-2.ensures c.in-Ok-read.is in
    let t = rw (c.keys_of-y.ensures, c.keys_of-x.ensures) at (sym c.goes_before.ensures ∙ c.if-goes_before.true) in
    rw (better-neither first second first_good second-good t) (compared refl refl)

pub returns : goal.returns
unfolding told Shows
returns c =
    let first : Candidate = record { block = c.args.a.now; state = c.args.sender.state; identifier = c.args.sender.identifier; address = c.args.sender.address } in
    let second : Candidate = record { block = c.args.b.now; state = c.args.other.state; identifier = c.args.other.identifier; address = c.args.other.address } in
    let first_good : bad_candidate first ≡ false = clean-good first c.out_of_range.ensures c.if-out_of_range.false c.read.ensures c.in-Ok.is in
    let second-good : bad_candidate second ≡ false = clean-good second c.out_of_range-2.ensures c.if-out_of_range-2.false c.read-2.ensures c.in-Ok-read.is in
    let t = rw (c.keys_of-y.ensures, c.keys_of-x.ensures) at (sym c.goes_before.ensures ∙ c.if-goes_before.false) in
    rw (better-neither first second first_good second-good t) (compared refl refl)
