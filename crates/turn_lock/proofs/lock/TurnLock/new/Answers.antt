use Rattle.std.proofs.Common.{rules, ◌≡◌, refl, length, [], ◌∷◌, Some}
use Rattle.turn_lock.proofs.Steps.{opens}
use Rattle.turn_lock.proofs.lock.TurnLock.new.Goals as goal

pub new-requires : goal.new-requires
new-requires g c =
    let key : c.of-key.result.value ≡ c.args.value = search rules in
    let items : c.push.new.self.items ≡ Some c.args.value ∷ [] = search rules in
    let count : c.entries-count.result ≡ length (g.B.Logged.log c.args.value) = search rules in
    rw (key, items, count) (opens g.B.Logged.kind g.B.Logged.log g.B.Logged.terms_of _ c.args.value refl)
