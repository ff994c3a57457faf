use Rattle.std.proofs.Common.{◌≡◌, Some, None, length, refl, sym, ap, ◌∙◌, rules}
use Rattle.std.proofs.lemmas.Option.{slice_get_read, slice_get_past}
use Rattle.std.specs.Option.{option_map}
use Rattle.std.specs.Prelude.{slice_get}
use Rattle.c_check.specs.Names.{named}
use Rattle.c_check.specs.Tables.{at_name, first_of}
use Rattle.c_check.proofs.Tables.{found_at, missing_at}
use Rattle.c_check.proofs.named.Named.find.Goals as goal

pub returns-in-Some-get : goal.returns-in-Some-get
returns-in-Some-get g c =
    let place : at_name c.args.name.now c.self.inside.firsts.entries ≡ Some c.in-Some.place.now = search rules in
    let h = c.in-Some-get.ensures.lookup in
    let at : slice_get c.deref.result.now c.in-Some.place.now ≡ Some c.in-Some-get.entry.now = slice_get_read c.deref.result.now (length c.deref.result.now) c.in-Some.place.now c.in-Some-get.entry.now refl h.3.0 h.1 in
    let first : first_of c.args.name.now c.self.inside.entries.items ≡ Some c.in-Some.place.now = sym (c.self.invariant c.args.name.now) ∙ place in
    let view : c.self.inside.entries.items ≡ c.args.self.now = search rules in
    sym (found_at c.args.name.now c.self.inside.entries.items c.in-Some.place.now first ∙ ap (λ es. option_map (λ e. e.1) (slice_get es c.in-Some.place.now)) (sym c.deref.ensures.value) ∙ ap (λ o. option_map (λ e. e.1) o) at)
    ∙ ap (λ es. named c.args.name.now es) view

pub returns-in-None-get : goal.returns-in-None-get
returns-in-None-get g c =
    let place : at_name c.args.name.now c.self.inside.firsts.entries ≡ Some c.in-Some.place.now = search rules in
    let at : slice_get c.deref.result.now c.in-Some.place.now ≡ None = slice_get_past c.deref.result.now c.in-Some.place.now c.in-None-get.ensures.lookup.3 in
    let first : first_of c.args.name.now c.self.inside.entries.items ≡ Some c.in-Some.place.now = sym (c.self.invariant c.args.name.now) ∙ place in
    let view : c.self.inside.entries.items ≡ c.args.self.now = search rules in
    sym (found_at c.args.name.now c.self.inside.entries.items c.in-Some.place.now first ∙ ap (λ es. option_map (λ e. e.1) (slice_get es c.in-Some.place.now)) (sym c.deref.ensures.value) ∙ ap (λ o. option_map (λ e. e.1) o) at)
    ∙ ap (λ es. named c.args.name.now es) view

pub returns-in-None : goal.returns-in-None
returns-in-None g c =
    let place : at_name c.args.name.now c.self.inside.firsts.entries ≡ None = search rules in
    let view : c.self.inside.entries.items ≡ c.args.self.now = search rules in
    sym (missing_at c.args.name.now c.self.inside.entries.items (sym (c.self.invariant c.args.name.now) ∙ place)) ∙ ap (λ es. named c.args.name.now es) view
