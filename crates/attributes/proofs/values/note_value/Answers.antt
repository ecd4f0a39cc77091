-- `note_value` meets its contract: fault and place by one match of the type.
use Prim.Native.Nat.{ℕ}
use mathlib.Core.Path.{◌≡◌, ap}
use native.Mathlib.Omega.{arith}
use Rattle.std.specs.Prelude.{Result, Ok, Err}
use Rattle.attributes.specs.Steps.{noted_or}
use Rattle.attributes.specs.declared.layout.Layout.{Layout}
use Rattle.attributes.specs.declared.values.Faulty.{Faulty}
use Rattle.attributes.proofs.Places.{noted-origin, noted-as_path, noted-communities, noted-otc, noted_other}
use Rattle.attributes.proofs.ValueFaults.{fault_1, fault_2, fault_16, fault_35, fault-other}
use Rattle.attributes.proofs.values.note_value.Goals as goal

abbrev faulty : ℕ → Layout → Result Layout Faulty
faulty f l = Err (record { fault = f; layout = l })

pub returns-then-not-origin_ok : goal.returns-then-not-origin_ok
unfolding noted_or
returns-then-not-origin_ok c = let a = c.args in
    let places = noted-origin a.layout a.kind a.at c.sought.ensures c.sought-2.ensures c.in-1.is c.sought-in-1.ensures in
    rw (fault_1 a.v.now a.kind c.in-1.is c.origin_ok.ensures, c.if-not-origin_ok.true) (ap (faulty 3) places)

pub returns-then-not-as_path_ok : goal.returns-then-not-as_path_ok
unfolding noted_or
returns-then-not-as_path_ok c = let a = c.args in
    let places = noted-as_path a.layout a.kind a.at c.sought.ensures c.sought-2.ensures c.in-2.is c.sought-in-2.ensures in
    rw (fault_2 a.v.now a.kind c.in-2.is c.as_path_ok.ensures, c.if-not-as_path_ok.true) (ap (faulty 4) places)

pub returns-then-not-communities_ok : goal.returns-then-not-communities_ok
unfolding noted_or
returns-then-not-communities_ok c = let a = c.args in
    let places = noted-communities a.layout a.kind a.at c.sought.ensures c.sought-2.ensures c.in-16.is c.sought-in-16.ensures in
    rw (fault_16 a.v.now a.kind c.in-16.is c.communities_ok.ensures, c.if-not-communities_ok.true) (ap (faulty 6) places)

pub returns-then-not-otc_ok : goal.returns-then-not-otc_ok
unfolding noted_or
returns-then-not-otc_ok c = let a = c.args in
    let places = noted-otc a.layout a.kind a.at c.sought.ensures c.sought-2.ensures c.in-35.is c.sought-in-35.ensures in
    rw (fault_35 a.v.now a.kind c.in-35.is c.otc_ok.ensures, c.if-not-otc_ok.true) (ap (faulty 5) places)

pub returns-else-not-origin_ok : goal.returns-else-not-origin_ok
unfolding noted_or
returns-else-not-origin_ok c = let a = c.args in
    let places = noted-origin a.layout a.kind a.at c.sought.ensures c.sought-2.ensures c.in-1.is c.sought-in-1.ensures in
    rw (fault_1 a.v.now a.kind c.in-1.is c.origin_ok.ensures, c.if-not-origin_ok.false) (ap (λ (l : Layout). Ok l) places)

pub returns-else-not-as_path_ok : goal.returns-else-not-as_path_ok
unfolding noted_or
returns-else-not-as_path_ok c = let a = c.args in
    let places = noted-as_path a.layout a.kind a.at c.sought.ensures c.sought-2.ensures c.in-2.is c.sought-in-2.ensures in
    rw (fault_2 a.v.now a.kind c.in-2.is c.as_path_ok.ensures, c.if-not-as_path_ok.false) (ap (λ (l : Layout). Ok l) places)

pub returns-else-not-communities_ok : goal.returns-else-not-communities_ok
unfolding noted_or
returns-else-not-communities_ok c = let a = c.args in
    let places = noted-communities a.layout a.kind a.at c.sought.ensures c.sought-2.ensures c.in-16.is c.sought-in-16.ensures in
    rw (fault_16 a.v.now a.kind c.in-16.is c.communities_ok.ensures, c.if-not-communities_ok.false) (ap (λ (l : Layout). Ok l) places)

pub returns-else-not-otc_ok : goal.returns-else-not-otc_ok
unfolding noted_or
returns-else-not-otc_ok c = let a = c.args in
    let places = noted-otc a.layout a.kind a.at c.sought.ensures c.sought-2.ensures c.in-35.is c.sought-in-35.ensures in
    rw (fault_35 a.v.now a.kind c.in-35.is c.otc_ok.ensures, c.if-not-otc_ok.false) (ap (λ (l : Layout). Ok l) places)

pub returns-in_default : goal.returns-in_default
unfolding noted_or
returns-in_default c = let a = c.args in
    let other : (n : ℕ) → Type 0 = λ n. a.kind ≡ n → ⊥ in
    let k1 : other 1 = λ z. omega arith in
    let k2 : other 2 = λ z. omega arith in
    let k16 : other 16 = λ z. omega arith in
    let k35 : other 35 = λ z. omega arith in
    let places = noted_other a.layout a.kind a.at c.sought.ensures c.sought-2.ensures k1 k2 k16 k35 in
    rw (← fault-other a.v.now a.kind k1 k2 k16 k35) (ap (λ (l : Layout). Ok l) places)
