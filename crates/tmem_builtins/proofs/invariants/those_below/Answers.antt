use Rattle.std.proofs.Common.{true, false, arith, sym, ◌∙◌}
use Rattle.tmem_builtins.specs.Invariants.{is_footprint_within}
use Rattle.tmem_builtins.proofs.Tables.{of_none, of_one, of_two, of_three, three_filtered, within_one, past_one, within_two, past_two}
use Rattle.tmem_builtins.proofs.invariants.those_below.Goals as goal

pub returns-in-0-clause-entries : goal.returns-in-0-clause-entries
returns-in-0-clause-entries g c = c.new.ensures.items ∙ sym (three_filtered (λ e. is_footprint_within c.args.vars e.footprint.items) c.args.floor c.args.pair c.args.order false false false (past_one _ 0 _ c.requires.floor_over (omega arith)) (past_two _ 0 1 _ c.requires.pair_over (omega arith)) (past_two _ 2 3 _ c.requires.order_over (omega arith)))

pub returns-in_ok-vec-in-1-clause-entries : goal.returns-in_ok-vec-in-1-clause-entries
returns-in_ok-vec-in-1-clause-entries g c = c.in_ok-vec-in-1.ensures.items ∙ sym (three_filtered (λ e. is_footprint_within c.args.vars e.footprint.items) c.args.floor c.args.pair c.args.order true false false (within_one _ 0 _ c.requires.floor_over (omega arith)) (past_two _ 0 1 _ c.requires.pair_over (omega arith)) (past_two _ 2 3 _ c.requires.order_over (omega arith)))

pub returns-in_ok-vec-in-2-clause-entries : goal.returns-in_ok-vec-in-2-clause-entries
returns-in_ok-vec-in-2-clause-entries g c = c.in_ok-vec-in-2.ensures.items ∙ sym (three_filtered (λ e. is_footprint_within c.args.vars e.footprint.items) c.args.floor c.args.pair c.args.order true true false (within_one _ 0 _ c.requires.floor_over (omega arith)) (within_two _ 0 1 _ c.requires.pair_over (omega arith) (omega arith)) (past_two _ 2 3 _ c.requires.order_over (omega arith)))

pub returns-in_ok-vec-in_default-clause-entries : goal.returns-in_ok-vec-in_default-clause-entries
returns-in_ok-vec-in_default-clause-entries g c = c.in_ok-vec-in_default.ensures.items ∙ sym (three_filtered (λ e. is_footprint_within c.args.vars e.footprint.items) c.args.floor c.args.pair c.args.order true true true (within_one _ 0 _ c.requires.floor_over (omega arith)) (within_two _ 0 1 _ c.requires.pair_over (omega arith) (omega arith)) (within_two _ 2 3 _ c.requires.order_over (omega arith) (omega arith)))

pub returns-in-0-clause-fit : goal.returns-in-0-clause-fit
returns-in-0-clause-fit g c = of_none (λ e. e.name) (λ e. e.footprint.items) c.args.vars _ c.new.ensures.items

pub returns-in_ok-vec-in-1-clause-fit : goal.returns-in_ok-vec-in-1-clause-fit
returns-in_ok-vec-in-1-clause-fit g c = of_one (λ e. e.name) (λ e. e.footprint.items) c.args.vars _ c.args.floor c.in_ok-vec-in-1.ensures.items c.requires.floor_over (omega arith)

pub returns-in_ok-vec-in-2-clause-fit : goal.returns-in_ok-vec-in-2-clause-fit
returns-in_ok-vec-in-2-clause-fit g c = of_two (λ e. e.name) (λ e. e.footprint.items) c.args.vars _ c.args.floor c.args.pair c.in_ok-vec-in-2.ensures.items c.requires.floor_name c.requires.pair_name c.requires.floor_over c.requires.pair_over (omega arith)

pub returns-in_ok-vec-in_default-clause-fit : goal.returns-in_ok-vec-in_default-clause-fit
returns-in_ok-vec-in_default-clause-fit g c = of_three (λ e. e.name) (λ e. e.footprint.items) c.args.vars _ c.args.floor c.args.pair c.args.order c.in_ok-vec-in_default.ensures.items c.requires.floor_name c.requires.pair_name c.requires.order_name c.requires.floor_over c.requires.pair_over c.requires.order_over (omega arith)
