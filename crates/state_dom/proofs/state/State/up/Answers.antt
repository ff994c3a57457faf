use Rattle.std.proofs.Common.{subst, sym, rules}
use Rattle.state_dom.specs.StateValue.{StateValue, CoversState}
use Rattle.state_dom.proofs.Bounding.{CoversState-refl, raised_by-covered}
use Rattle.state_dom.proofs.state.State.up.Goals as goal

pub returns-then-le-clause-value : goal.returns-then-le-clause-value
returns-then-le-clause-value c = sym (raised_by-covered c.args.marks.now c.args.self.now c.args.new.now c.requires (search rules))

pub returns-then-le-clause-old : goal.returns-then-le-clause-old
returns-then-le-clause-old c = CoversState-refl c.args.self.now

pub returns-else-self-clause-new : goal.returns-else-self-clause-new
returns-else-self-clause-new c = subst (λ (s : StateValue). CoversState s c.args.new.now) (sym c.become_reached.ensures) (CoversState-refl c.args.new.now)
