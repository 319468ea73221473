-- `printing::fill` meets its contract. Invariant: some lines are in the buffer, and what else goes into it comes after them. Measure: the lines still to
-- come. Assumes nothing.
use native.Mathlib.Omega.{arith}
use Rattle.xdr_sheet.proofs.Fill.{all_lines, one_line, no_line, line_falls}
use Rattle.xdr_sheet.proofs.printing.fill.Goals as goal

pub returns-in_default-place : goal.returns-in_default-place
returns-in_default-place c = no_line c.loop-next.invariant c.in-Some.is c.next_line-printed.ensures _ (rw c.as_slice.ensures.text at c.in_default-place.ensures)

pub overflow_add-count : goal.overflow_add-count
overflow_add-count c =
    let again = one_line c.loop-next.invariant c.in-Some.is c.next_line-printed.ensures _ _
    (rw c.as_slice.ensures.text at c.in-Some-place.ensures) in
    omega (arith, again.within)

pub loop-next-smaller : goal.loop-next-smaller
loop-next-smaller c = line_falls c.loop-next.invariant c.in-Some.is c.next_line-printed.ensures

pub loop-next-preserved : goal.loop-next-preserved
loop-next-preserved c = one_line c.loop-next.invariant c.in-Some.is c.next_line-printed.ensures _ _
    (rw c.as_slice.ensures.text at c.in-Some-place.ensures)

pub returns : goal.returns
returns c = all_lines c.loop-next.invariant c.in_default.is
