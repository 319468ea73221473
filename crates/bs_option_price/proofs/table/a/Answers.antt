-- `table::a` meets its contract: the part of the table in each arm of the match is the definition's row. Assumes nothing.
use Rattle.std.proofs.Common.{◌≡◌, ◌∙◌, arith}
use Rattle.bs_option_price.specs.Table.{table, row}
use Rattle.bs_option_price.proofs.Expansion.{row_at}
use Rattle.bs_option_price.proofs.table.a.Goals as goal

pub returns-in-4 : goal.returns-in-4
unfolding table row
returns-in-4 c = c.nested-in-4.ensures ∙ row_at 4 _ _ c.in-4.is

pub returns-in-10 : goal.returns-in-10
unfolding table row
returns-in-10 c = c.nested-in-10.ensures ∙ row_at 10 _ _ c.in-10.is

pub returns-in-11 : goal.returns-in-11
unfolding table row
returns-in-11 c = c.nested-in-11.ensures ∙ row_at 11 _ _ c.in-11.is

pub returns-in-12 : goal.returns-in-12
unfolding table row
returns-in-12 c = c.nested-in-12.ensures ∙ row_at 12 _ _ c.in-12.is

pub returns-in-13 : goal.returns-in-13
unfolding table row
returns-in-13 c = c.nested-in-13.ensures ∙ row_at 13 _ _ c.in-13.is

pub returns-in-14 : goal.returns-in-14
unfolding table row
returns-in-14 c = c.nested-in-14.ensures ∙ row_at 14 _ _ c.in-14.is

pub returns-in-15 : goal.returns-in-15
unfolding table row
returns-in-15 c = c.nested-in-15.ensures ∙ row_at 15 _ _ c.in-15.is

pub returns-in_default : goal.returns-in_default
unfolding table row
returns-in_default c = let is_16 : c.args.k ≡ 16 = omega (arith, c.requires) in c.nested-in_default.ensures ∙ row_at 16 _ _ is_16
