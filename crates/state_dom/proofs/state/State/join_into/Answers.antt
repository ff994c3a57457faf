use Rattle.std.proofs.Common.{subst, sym}
use Rattle.state_dom.specs.StateValue.{StateValue, CoversState}
use Rattle.state_dom.proofs.Bounding.{CoversState-refl}
use Rattle.state_dom.proofs.state.State.join_into.Goals as goal

pub returns-then-not-other-clause-this : goal.returns-then-not-other-clause-this
returns-then-not-other-clause-this c = CoversState-refl c.args.self.now

pub returns-else-self-clause-other : goal.returns-else-self-clause-other
returns-else-self-clause-other c = subst (λ (s : StateValue). CoversState s c.args.other.now) (sym c.become_reached.ensures) (CoversState-refl c.args.other.now)
