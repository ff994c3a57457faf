use Rattle.std.proofs.Common.{◌≡◌, ◌∷◌, ◌++◌, [], reverse, cond, Some, bytes_eq, sym, ap, ◌∙◌, subst, List, ℕ, rules}
use Rattle.c_check.specs.declared.meaning.Declared.{Declared}
use Rattle.c_check.specs.declared.visible.Hiding.{Hiding}
use Rattle.c_check.specs.Names.{named}
use Rattle.c_check.specs.Tables.{at_name, declarations, AreSeen}
use Rattle.c_check.proofs.Tables.{seen_more, one_more}
use Rattle.c_check.proofs.visible.Visible.add.Goals as goal

pub invariant_of-self-2 : goal.invariant_of-self-2
invariant_of-self-2 c =
    let own : Hiding = record { name = c.in_ok-own.own; declared = c.args.declared; hidden = c.find-hidden.result } in
    let items : c.push_reserved.new.self.items ≡ c.self.inside.all.items ++ own ∷ [] = search rules in
    let name : c.in_ok-own.own.items ≡ c.args.name.now = search rules in
    let key : c.in_ok-key.key.items ≡ c.in_ok-own.own.items = search rules in
    let view : c.args.self.now ≡ declarations (reverse c.self.inside.all.items) = search rules in
    let hidden : own.hidden ≡ named own.name.items (declarations (reverse c.self.inside.all.items)) =
    c.find-hidden.ensures ∙ ap (λ (ds : List (List ℕ × Declared)). named c.args.name.now ds) view ∙ ap (λ (x : List ℕ). named x (declarations (reverse c.self.inside.all.items))) (sym name) in
    let seen = seen_more c.self.inside.latest.entries c.put.new.map.entries (reverse c.self.inside.all.items) own c.self.invariant
    (λ x. c.in_ok-put.ensures.ok x ∙ ap (λ (k : List ℕ). cond (bytes_eq x k) (Some (Some c.args.declared)) (at_name x c.self.inside.latest.entries)) key) hidden in
    subst (λ (hs : List Hiding). AreSeen c.put.new.map.entries hs) (sym (ap reverse items ∙ one_more c.self.inside.all.items own)) seen
