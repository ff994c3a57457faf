use Rattle.std.proofs.Common.{◌≡◌, ◌↔◌, [], List, refl, sym, ap, subst}
use Rattle.std.specs.Prelude.{Contains}
use Rattle.constraint_sys.specs.declared.unknown.Unknown.{Unknown}
use Rattle.constraint_sys.proofs.Ordered.{Contains-nil}
use Rattle.dep_index.specs.Rows.{items_of, set_at}
use Rattle.dep_index.proofs.Stepping.{noted_is, inverse_after, none_added}
use Rattle.dep_index.proofs.index.DepIndex.forget.Goals as goal

all_gone : (old now : List Unknown) (w : Unknown) → old ≡ now → Contains old w ↔ (Contains now w × (Contains [] w → ⊥))
all_gone old now w is = (λ one. (subst (λ (l : List Unknown). Contains l w) is one, λ none. Contains-nil w none), λ both. subst (λ (l : List Unknown). Contains l w) (sym is) both.0)

none_new : (now : List Unknown) (w : Unknown) → Contains [] w ↔ (Contains [] w × (Contains now w → ⊥))
none_new now w = (λ none. absurd (Contains-nil w none), λ both. both.0)

pub invariant_of-self : goal.invariant_of-self
invariant_of-self c =
    inverse_after c.self.inside.reads.entries c.remove_row-old.new.rows.entries c.args.reader [] (ap items_of c.remove_row-old.ensures.new) c.remove_row-old.ensures.others
    c.self.inside.readers.entries c.self.inside.readers.entries c.take_old.new.rows.entries c.take_old.new.rows.entries (items_of c.remove_row-old.result) [] c.self.invariant (λ w. refl)
    (λ w. all_gone (items_of c.remove_row-old.result) (set_at c.self.inside.reads.entries c.args.reader) w c.remove_row-old.ensures.old)
    (none_new (set_at c.self.inside.reads.entries c.args.reader))
    c.take_old.ensures.members (none_added c.take_old.new.rows.entries c.args.reader) c.take_old.ensures.ascending

pub returns : goal.returns
returns c = noted_is c.self.inside.reads.entries c.remove_row-old.new.rows.entries c.args.reader [] (ap items_of c.remove_row-old.ensures.new) c.remove_row-old.ensures.others c.args.self.now c.self.view_is
