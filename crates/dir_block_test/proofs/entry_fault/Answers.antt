use Prim.Native.Nat.{ℕ, ◌+◌, ◌-◌}
use native.Mathlib.Omega.{arith}
use mathlib.Core.Path.{◌≡◌}
use Rattle.be.specs.Bytes.{byte}
use Rattle.dir_block_test.proofs.EntryWalk.{fault_name, fault_number, fault_index, fault_none}
use Rattle.dir_block_test.proofs.entry_fault.Goals as goal

pub returns-then-not-name_fits : goal.returns-then-not-name_fits
returns-then-not-name_fits c =
    let a = c.args in
    let k : ℕ = a.o + 9 + c.be8.result - (a.o + 9) in
    let q : a.o + 9 + c.be8.result - (a.o + 9) ≡ byte (a.o + 8) a.b.now = omega (arith, c.be8.ensures.0) in
    fault_name _ _ _ a.b.now a.o k q _ c.name_fits.ensures c.if-not-name_fits.true

pub returns-then-not-number_fits : goal.returns-then-not-number_fits
returns-then-not-number_fits c =
    let a = c.args in
    let k : ℕ = a.o + 9 + c.be8.result - (a.o + 9) in
    let q : a.o + 9 + c.be8.result - (a.o + 9) ≡ byte (a.o + 8) a.b.now = omega (arith, c.be8.ensures.0) in
    fault_number _ _ _ a.b.now a.o k q _ c.name_fits.ensures c.if-not-name_fits.false
    _ c.number_fits.ensures c.if-not-number_fits.true

pub returns-then-has_slot : goal.returns-then-has_slot
returns-then-has_slot c =
    let a = c.args in
    let k : ℕ = a.o + 9 + c.be8.result - (a.o + 9) in
    let q : a.o + 9 + c.be8.result - (a.o + 9) ≡ byte (a.o + 8) a.b.now = omega (arith, c.be8.ensures.0) in
    fault_none _ _ _ a.b.now a.o k q _ c.name_fits.ensures c.if-not-name_fits.false
    _ c.number_fits.ensures c.if-not-number_fits.false
    _ c.check_in-c.ensures.1.0 _ c.has_slot.ensures c.if-has_slot.true

pub returns : goal.returns
returns c =
    let a = c.args in
    let k : ℕ = a.o + 9 + c.be8.result - (a.o + 9) in
    let q : a.o + 9 + c.be8.result - (a.o + 9) ≡ byte (a.o + 8) a.b.now = omega (arith, c.be8.ensures.0) in
    fault_index _ _ _ a.b.now a.o k q _ c.name_fits.ensures c.if-not-name_fits.false
    _ c.number_fits.ensures c.if-not-number_fits.false
    _ c.check_in-c.ensures.1.0 _ c.has_slot.ensures c.if-has_slot.false
