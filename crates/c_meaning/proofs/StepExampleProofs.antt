-- The expressions and runs of the examples, worked out.
use Rattle.std.proofs.Common.{◌≡◌, refl, pos, negsuc, [], ◌∷◌, Ok, Err}
use Rattle.std.specs.Int.{int_wrap}
use Rattle.gob_tree.specs.declared.expr.Width.TheVariants.{W32}
use Rattle.c_meaning.specs.declared.demand.Demand.TheVariants.{Nondet, Fault}
use Rattle.c_meaning.specs.Config.{first_values}
use Rattle.c_meaning.specs.Demand.{value_of, demand_of, with_slot}
use Rattle.c_meaning.proofs.Evaluation.{steps, expressions}
use Rattle.c_meaning.specs.Samples.{answers, left, slots_of}
use Rattle.c_meaning.specs.StepExamples.{first_choice, one_fault, zero_division, top_sum, least_quotient, long_sum, long_sum_behind, long_slots, long_values, int_slots, two_inputs, early_fault, early_stop, early_or, late_or, one_input, relocking, returning, dividing, adding, widening, racing, racing_choices, calling, calling_choices, inside_slots, calling_slots, unlocking, joining_none, waiting, waiting_choices, waiting_answers, turning, turning_choices, turning_threads, holding, ending_choices, joined_choices, narrowing_choices, narrowing_slots, held, two_parameters, two_arguments, relocking_answers, returning_answers, dividing_answers, racing_answers, two_choices, late_choices, adding_choices, adding_slots, widening_choices, widening_slots, racing_slots}

-- ---- expressions

pub division_by_zero : value_of zero_division [] [] ≡ Err Fault
division_by_zero = simp (expressions, value_of, demand_of)

pub sum_wraps : value_of top_sum [] [] ≡ Ok (negsuc 2147483647)
unfolding int_wrap
sum_wraps = simp (expressions, value_of, demand_of)

pub least_by_minus_one : value_of least_quotient [] [] ≡ Ok (negsuc 2147483647)
unfolding int_wrap
least_by_minus_one = simp (expressions, value_of, demand_of)

pub long_and_int : value_of long_sum long_slots long_values ≡ Ok (pos 2147483648)
unfolding int_wrap
long_and_int = simp (expressions, value_of, demand_of)

pub int_and_long : value_of long_sum_behind long_slots long_values ≡ Ok (pos 2147483648)
unfolding int_wrap
int_and_long = simp (expressions, value_of, demand_of)

pub long_into_int : with_slot int_slots 1 (pos 2147483648) (pos 0 ∷ pos 0 ∷ []) ≡ pos 0 ∷ negsuc 2147483647 ∷ []
unfolding int_wrap
long_into_int = refl

pub second_missing : demand_of two_inputs [] [] (pos 5 ∷ []) ≡ (Err (Nondet W32), [])
second_missing = simp (expressions, demand_of)

pub both_given : demand_of two_inputs [] [] (pos 5 ∷ pos 6 ∷ pos 7 ∷ []) ≡ (Ok (pos 11), pos 7 ∷ [])
unfolding int_wrap
both_given = simp (expressions, demand_of)

pub fault_before_input : value_of early_fault [] [] ≡ Err Fault
fault_before_input = simp (expressions, value_of, demand_of)

pub stops_early : value_of early_stop [] [] ≡ Ok (pos 0)
stops_early = simp (expressions, value_of, demand_of)

pub or_stops_early : demand_of early_or [] [] one_input ≡ (Ok (pos 1), one_input)
or_stops_early = simp (expressions, demand_of)

pub or_goes_on : demand_of late_or [] [] one_input ≡ (Ok (pos 1), [])
or_goes_on = simp (expressions, demand_of)

-- ---- steps

pub second_lock : answers relocking two_choices ≡ relocking_answers
second_lock = simp steps

pub no_thread_before_ended : answers returning late_choices ≡ returning_answers
no_thread_before_ended = simp steps

pub division : answers dividing two_choices ≡ dividing_answers
unfolding int_wrap
division = simp steps

pub sum_above_greatest : slots_of (left adding adding_choices) ≡ adding_slots
unfolding int_wrap
sum_above_greatest = simp steps

pub long_slots_kept : slots_of (left widening widening_choices) ≡ widening_slots
unfolding int_wrap
long_slots_kept = simp steps

pub two_threads : answers racing racing_choices ≡ racing_answers
two_threads = simp steps

pub two_reads_kept : slots_of (left racing racing_choices) ≡ racing_slots
unfolding int_wrap
two_reads_kept = simp steps

pub inside_call : slots_of (left calling first_choice) ≡ inside_slots
unfolding int_wrap
inside_call = simp steps

pub after_call : slots_of (left calling calling_choices) ≡ calling_slots
unfolding int_wrap
after_call = simp steps

pub unlock_of_free : answers unlocking first_choice ≡ one_fault
unlock_of_free = simp steps

pub join_of_none : answers joining_none two_choices ≡ dividing_answers
join_of_none = simp steps

pub join_waits : answers waiting waiting_choices ≡ waiting_answers
join_waits = simp steps

pub loop_turns : (left turning turning_choices).threads ≡ turning_threads
unfolding int_wrap
loop_turns = simp steps

-- ---- calls and joins

pub parameters : first_values two_parameters two_arguments ≡ pos 0 ∷ negsuc 2147483647 ∷ pos 2147483648 ∷ pos 0 ∷ []
unfolding int_wrap
parameters = refl

pub argument : slots_of (left holding narrowing_choices) ≡ narrowing_slots
unfolding int_wrap
argument = simp steps

pub before_join : (left holding ending_choices).owners ≡ held
before_join = simp steps

pub after_join : (left holding joined_choices).owners ≡ held
after_join = simp steps
