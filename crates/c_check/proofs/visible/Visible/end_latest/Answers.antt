use Rattle.std.proofs.Common.{◌≡◌, ◌∷◌, reverse, ap, ◌∙◌, subst, List}
use Rattle.c_check.specs.declared.visible.Hiding.{Hiding}
use Rattle.c_check.specs.Tables.{AreSeen}
use Rattle.c_check.proofs.Tables.{seen_less, one_more, latest_is_there}
use Rattle.c_check.proofs.visible.Visible.end_latest.Goals as goal

pub invariant_of-self-in-Ok : goal.invariant_of-self-in-Ok
invariant_of-self-in-Ok c =
    let items : reverse c.self.inside.all.items ≡ c.in-Some.last ∷ reverse c.pop.new.self.items = ap reverse c.in-Some.ensures.items ∙ one_more c.pop.new.self.items c.in-Some.last in
    seen_less c.self.inside.latest.entries c.put.new.map.entries (reverse c.pop.new.self.items) c.in-Some.last (subst (λ (hs : List Hiding). AreSeen c.self.inside.latest.entries hs) items c.self.invariant) c.in-Ok.ensures.ok

pub unreachable-requires : goal.unreachable-requires
unreachable-requires c =
    let items : reverse c.self.inside.all.items ≡ c.in-Some.last ∷ reverse c.pop.new.self.items = ap reverse c.in-Some.ensures.items ∙ one_more c.pop.new.self.items c.in-Some.last in
    latest_is_there c.self.inside.latest.entries (reverse c.pop.new.self.items) c.in-Some.last (subst (λ (hs : List Hiding). AreSeen c.self.inside.latest.entries hs) items c.self.invariant) c.in-Err.ensures.absent
