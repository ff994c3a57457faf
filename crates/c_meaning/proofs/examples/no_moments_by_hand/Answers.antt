use Rattle.c_meaning.proofs.StandExampleProofs as stands
use Rattle.c_meaning.proofs.examples.no_moments_by_hand.Goals as goal

pub returns-clause-other_globals : goal.returns-clause-other_globals
returns-clause-other_globals c = stands.other_globals

pub returns-clause-other_local : goal.returns-clause-other_local
returns-clause-other_local c = stands.other_local

pub returns-clause-caller_goes_on : goal.returns-clause-caller_goes_on
returns-clause-caller_goes_on c = stands.caller_goes_on

pub returns-clause-caller_at_no_call : goal.returns-clause-caller_at_no_call
returns-clause-caller_at_no_call c = stands.caller_at_no_call

pub returns-clause-ended_elsewhere : goal.returns-clause-ended_elsewhere
returns-clause-ended_elsewhere c = stands.ended_elsewhere
