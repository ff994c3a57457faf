-- What a statement answers, form by form, from what its parts answer.
use Rattle.std.proofs.Common.{◌≡◌, sym, ap, ◌∙◌, subst, ℕ, Bool, true, List, [], ◌++◌, length, map, Option, Result}
use Rattle.std.specs.Option.{option_map}
use Rattle.gob_tree.specs.declared.place.Place.{Place}
use Rattle.gob_tree.specs.declared.expr.Expr.{Expr}
use Rattle.gob_tree.specs.declared.expr.Width.{Width}
use Rattle.c_parse.specs.declared.raw.expr.RawName.{RawName}
use Rattle.gob_tree.specs.declared.stmt.Stmt.{Stmt}
use Rattle.gob_tree.specs.declared.stmt.Stmt.TheVariants as becomes
use Rattle.gob_tree.specs.declared.stmt.Placed.{Placed}
use Rattle.c_parse.specs.declared.raw.expr.RawExpr.{RawExpr}
use Rattle.c_parse.specs.declared.raw.stmt.RawStmt.{RawStmt, Declare, If, While, DoWhile, For, Block}
use Rattle.c_parse.specs.declared.raw.stmt.RawStmt.TheOpen.{RawStmt-F}
use Rattle.c_parse.specs.declared.raw.stmt.RawPlaced.{RawPlaced}
use Rattle.c_check.specs.declared.fault.FrontFault.{FrontFault}
use Rattle.c_check.specs.Faults.{IsFirst, Reads}
use Rattle.c_check.specs.Names.{FileNames, BodyNames, with_local, opened, closed}
use Rattle.c_check.specs.Rules.{local_faults}
use Rattle.c_check.specs.Bodies.{Reading, expr_faults, expr_of, optional_faults, optional_of, sequence_faults, sequence_becomes, sequence_after, part_faults, part_becomes, part_after, for_head, for_body, reading_step, placed_step, reading_at, reading_of}
use Rattle.c_check.proofs.Firsts.{first_left, first_right, none_of}
use Rattle.c_check.proofs.RawLevels.{fold-If, fold-While, fold-DoWhile, fold-For, fold-Block, fold-Declare}

module _ (file : FileNames) (place : Place) where
  abbrev R : RawPlaced → Reading
  R = reading_of file

  reading-If : (e : RawExpr) (a : RawPlaced) (b : Option RawPlaced) → reading_at file (If e a b) place ≡ reading_step file (RawStmt-F.If e (R a) (option_map R b)) place
  reading-If e a b = fold-If Place Reading (reading_step file) placed_step e a b place

  reading-While : (e : RawExpr) (a : RawPlaced) → reading_at file (While e a) place ≡ reading_step file (RawStmt-F.While e (R a)) place
  reading-While e a = fold-While Place Reading (reading_step file) placed_step e a place

  reading-DoWhile : (a : RawPlaced) (e : RawExpr) → reading_at file (DoWhile a e) place ≡ reading_step file (RawStmt-F.DoWhile (R a) e) place
  reading-DoWhile a e = fold-DoWhile Place Reading (reading_step file) placed_step a e place

  reading-For : (first : List RawPlaced) (test : Option RawExpr) (last : Option RawPlaced) (inner : RawPlaced) → reading_at file (For first test last inner) place ≡ reading_step file (RawStmt-F.For (map R first) test (option_map R last) (R inner)) place
  reading-For first test last inner = fold-For Place Reading (reading_step file) placed_step first test last inner place

  reading-Block : (all : List RawPlaced) → reading_at file (Block all) place ≡ reading_step file (RawStmt-F.Block (map R all)) place
  reading-Block all = fold-Block Place Reading (reading_step file) placed_step all place

  module _ (l : Bool) (body : BodyNames) where
    abbrev Told : FrontFault → Reading → Type 0
    Told fault r = IsFirst fault (r.faults l body)

    abbrev Done : Stmt → BodyNames → Reading → Type 0
    Done s new r = (r.faults l body ≡ []) × (s ≡ (r.becomes body).stmt) × (new ≡ r.after body)

    told_at : (fault : FrontFault) (raw s : RawStmt) (r : Reading) → raw ≡ s → reading_at file s place ≡ r → Told fault r → Told fault (reading_at file raw place)
    told_at fault raw s r is e h = subst (λ (x : Reading). IsFirst fault (x.faults l body)) (sym (ap (λ (x : RawStmt). reading_at file x place) is ∙ e)) h

    done_at : (t : Stmt) (new : BodyNames) (raw s : RawStmt) (r : Reading) → raw ≡ s → reading_at file s place ≡ r → Done t new r → Done t new (reading_at file raw place)
    done_at t new raw s r is e h =
        subst (λ (x : Reading). (x.faults l body ≡ []) × (t ≡ (x.becomes body).stmt) × (new ≡ x.after body)) (sym (ap (λ (x : RawStmt). reading_at file x place) is ∙ e)) h

    -- ---- if

    pub if_test : (fault : FrontFault) (raw : RawStmt) (e : RawExpr) (a : RawPlaced) (b : Option RawPlaced) → raw ≡ If e a b
        → IsFirst fault (expr_faults file body e) → Told fault (reading_at file raw place)
    if_test fault raw e a b is h = told_at fault raw (If e a b) _ is (reading-If e a b) (first_left fault _ _ h)

    pub if_then : (fault : FrontFault) (raw : RawStmt) (e : RawExpr) (a : RawPlaced) (b : Option RawPlaced) → raw ≡ If e a b
        → expr_faults file body e ≡ [] → IsFirst fault ((R a).faults l body) → Told fault (reading_at file raw place)
    if_then fault raw e a b is fe h = told_at fault raw (If e a b) _ is (reading-If e a b) (first_right fault _ _ fe (first_left fault _ _ h))

    pub if_else : (fault : FrontFault) (raw : RawStmt) (e : RawExpr) (a : RawPlaced) (b : Option RawPlaced) (one : BodyNames) → raw ≡ If e a b
        → expr_faults file body e ≡ [] → (R a).faults l body ≡ [] → one ≡ (R a).after body → IsFirst fault (part_faults (option_map R b) l one) → Told fault (reading_at file raw place)
    if_else fault raw e a b one is fe fa after h =
        told_at fault raw (If e a b) _ is (reading-If e a b)
        (first_right fault _ _ fe (first_right fault _ _ fa (subst (λ (x : BodyNames). IsFirst fault (part_faults (option_map R b) l x)) after h)))

    pub if_done : (raw : RawStmt) (e : RawExpr) (a : RawPlaced) (b : Option RawPlaced) (te : Expr) (ta : Placed) (tb : Option Placed) (one new : BodyNames) → raw ≡ If e a b
        → (expr_faults file body e ≡ []) × (te ≡ expr_of file body e)
        → ((R a).faults l body ≡ []) × (ta ≡ (R a).becomes body) × (one ≡ (R a).after body)
        → (part_faults (option_map R b) l one ≡ []) × (tb ≡ part_becomes (option_map R b) one) × (new ≡ part_after (option_map R b) one)
        → Done (becomes.If te ta tb) new (reading_at file raw place)
    if_done raw e a b te ta tb one new is he ha hb =
        let B : Option Reading = option_map R b in
        let fb : part_faults B l ((R a).after body) ≡ [] = subst (λ (x : BodyNames). part_faults B l x ≡ []) ha.2 hb.0 in
        let tree : becomes.If te ta tb ≡ becomes.If (expr_of file body e) ((R a).becomes body) (part_becomes B ((R a).after body)) =
        ap (λ (x : Expr). becomes.If x ta tb) he.1 ∙ ap (λ (x : Placed). becomes.If (expr_of file body e) x tb) ha.1
        ∙ ap (λ (x : Option Placed). becomes.If (expr_of file body e) ((R a).becomes body) x) (hb.1 ∙ ap (part_becomes B) ha.2) in
        done_at (becomes.If te ta tb) new raw (If e a b) _ is (reading-If e a b)
        (none_of _ _ he.0 (none_of _ _ ha.0 fb), tree, hb.2 ∙ ap (part_after B) ha.2)

    -- ---- while

    pub while_test : (fault : FrontFault) (raw : RawStmt) (e : RawExpr) (a : RawPlaced) → raw ≡ While e a
        → IsFirst fault (expr_faults file body e) → Told fault (reading_at file raw place)
    while_test fault raw e a is h = told_at fault raw (While e a) _ is (reading-While e a) (first_left fault _ _ h)

    pub while_inner : (fault : FrontFault) (raw : RawStmt) (e : RawExpr) (a : RawPlaced) → raw ≡ While e a
        → expr_faults file body e ≡ [] → IsFirst fault ((R a).faults true body) → Told fault (reading_at file raw place)
    while_inner fault raw e a is fe h = told_at fault raw (While e a) _ is (reading-While e a) (first_right fault _ _ fe h)

    pub while_done : (raw : RawStmt) (e : RawExpr) (a : RawPlaced) (te : Expr) (ta : Placed) (new : BodyNames) → raw ≡ While e a
        → (expr_faults file body e ≡ []) × (te ≡ expr_of file body e)
        → ((R a).faults true body ≡ []) × (ta ≡ (R a).becomes body) × (new ≡ (R a).after body)
        → Done (becomes.While te ta) new (reading_at file raw place)
    while_done raw e a te ta new is he ha =
        let tree : becomes.While te ta ≡ becomes.While (expr_of file body e) ((R a).becomes body) =
        ap (λ (x : Expr). becomes.While x ta) he.1 ∙ ap (λ (x : Placed). becomes.While (expr_of file body e) x) ha.1 in
        done_at (becomes.While te ta) new raw (While e a) _ is (reading-While e a) (none_of _ _ he.0 ha.0, tree, ha.2)

    -- ---- do

    pub do_inner : (fault : FrontFault) (raw : RawStmt) (a : RawPlaced) (e : RawExpr) → raw ≡ DoWhile a e
        → IsFirst fault ((R a).faults true body) → Told fault (reading_at file raw place)
    do_inner fault raw a e is h = told_at fault raw (DoWhile a e) _ is (reading-DoWhile a e) (first_left fault _ _ h)

    pub do_test : (fault : FrontFault) (raw : RawStmt) (a : RawPlaced) (e : RawExpr) (one : BodyNames) → raw ≡ DoWhile a e
        → (R a).faults true body ≡ [] → one ≡ (R a).after body → IsFirst fault (expr_faults file one e) → Told fault (reading_at file raw place)
    do_test fault raw a e one is fa after h =
        told_at fault raw (DoWhile a e) _ is (reading-DoWhile a e) (first_right fault _ _ fa (subst (λ (x : BodyNames). IsFirst fault (expr_faults file x e)) after h))

    pub do_done : (raw : RawStmt) (a : RawPlaced) (e : RawExpr) (ta : Placed) (te : Expr) (one : BodyNames) → raw ≡ DoWhile a e
        → ((R a).faults true body ≡ []) × (ta ≡ (R a).becomes body) × (one ≡ (R a).after body)
        → (expr_faults file one e ≡ []) × (te ≡ expr_of file one e)
        → Done (becomes.DoWhile ta te) one (reading_at file raw place)
    do_done raw a e ta te one is ha he =
        let fe : expr_faults file ((R a).after body) e ≡ [] = subst (λ (x : BodyNames). expr_faults file x e ≡ []) ha.2 he.0 in
        let tree : becomes.DoWhile ta te ≡ becomes.DoWhile ((R a).becomes body) (expr_of file ((R a).after body) e) =
        ap (λ (x : Placed). becomes.DoWhile x te) ha.1 ∙ ap (λ (x : Expr). becomes.DoWhile ((R a).becomes body) x) (he.1 ∙ ap (λ (x : BodyNames). expr_of file x e) ha.2) in
        done_at (becomes.DoWhile ta te) one raw (DoWhile a e) _ is (reading-DoWhile a e) (none_of _ _ ha.0 fe, tree, ha.2)

    -- ---- blocks

    pub block_inner : (fault : FrontFault) (raw : RawStmt) (all : List RawPlaced) (zero : BodyNames) → raw ≡ Block all → zero ≡ opened body
        → IsFirst fault (sequence_faults (map R all) l zero) → Told fault (reading_at file raw place)
    block_inner fault raw all zero is opens h =
        told_at fault raw (Block all) _ is (reading-Block all) (subst (λ (x : BodyNames). IsFirst fault (sequence_faults (map R all) l x)) opens h)

    pub block_done : (raw : RawStmt) (all : List RawPlaced) (made : List Placed) (zero one new : BodyNames) → raw ≡ Block all → zero ≡ opened body
        → (sequence_faults (map R all) l zero ≡ []) × (made ≡ sequence_becomes (map R all) zero) × (one ≡ sequence_after (map R all) zero)
        → new ≡ closed one
        → Done (becomes.Block made) new (reading_at file raw place)
    block_done raw all made zero one new is opens h closes =
        done_at (becomes.Block made) new raw (Block all) _ is (reading-Block all) (
          subst (λ (x : BodyNames). sequence_faults (map R all) l x ≡ []) opens h.0,
          ap (λ (x : List Placed). becomes.Block x) (h.1 ∙ ap (sequence_becomes (map R all)) opens),
          closes ∙ ap closed (h.2 ∙ ap (sequence_after (map R all)) opens),
        )

    -- ---- for

    module _ (raw : RawStmt) (first : List RawPlaced) (test : Option RawExpr) (last : Option RawPlaced) (inner : RawPlaced) (is : raw ≡ For first test last inner) where
      F : List Reading
      F = map R first

      L : Option Reading
      L = option_map R last

      pub for_first : (fault : FrontFault) (zero : BodyNames) → zero ≡ opened body → IsFirst fault (sequence_faults (map R first) l zero) → Told fault (reading_at file raw place)
      for_first fault zero opens h =
          told_at fault raw (For first test last inner) _ is (reading-For first test last inner)
          (first_left fault _ _ (subst (λ (x : BodyNames). IsFirst fault (sequence_faults (map R first) l x)) opens h))

      module _ (zero : BodyNames) (made : List Placed) (one : BodyNames) (opens : zero ≡ opened body)
          (hf : (sequence_faults (map R first) l zero ≡ []) × (made ≡ sequence_becomes (map R first) zero) × (one ≡ sequence_after (map R first) zero)) where
        head : one ≡ for_head (map R first) body
        head = hf.2 ∙ ap (sequence_after (map R first)) opens

        head_faults : sequence_faults (map R first) l (opened body) ≡ []
        head_faults = subst (λ (x : BodyNames). sequence_faults (map R first) l x ≡ []) opens hf.0

        pub for_test : (fault : FrontFault) → IsFirst fault (optional_faults file one test) → Told fault (reading_at file raw place)
        for_test fault h =
            told_at fault raw (For first test last inner) _ is (reading-For first test last inner)
            (first_right fault _ _ head_faults (first_left fault _ _ (subst (λ (x : BodyNames). IsFirst fault (optional_faults file x test)) head h)))

        module _ (te : Option Expr) (ht : (optional_faults file one test ≡ []) × (te ≡ optional_of file one test)) where
          test_faults : optional_faults file (for_head (map R first) body) test ≡ []
          test_faults = subst (λ (x : BodyNames). optional_faults file x test ≡ []) head ht.0

          pub for_last : (fault : FrontFault) → IsFirst fault (part_faults (option_map R last) l one) → Told fault (reading_at file raw place)
          for_last fault h =
              told_at fault raw (For first test last inner) _ is (reading-For first test last inner)
              (first_right fault _ _ head_faults (first_right fault _ _ test_faults (first_left fault _ _
              (subst (λ (x : BodyNames). IsFirst fault (part_faults (option_map R last) l x)) head h))))

          module _ (tl : Option Placed) (two : BodyNames)
              (hl : (part_faults (option_map R last) l one ≡ []) × (tl ≡ part_becomes (option_map R last) one) × (two ≡ part_after (option_map R last) one)) where
            last_faults : part_faults (option_map R last) l (for_head (map R first) body) ≡ []
            last_faults = subst (λ (x : BodyNames). part_faults (option_map R last) l x ≡ []) head hl.0

            behind : two ≡ for_body (map R first) (option_map R last) body
            behind = hl.2 ∙ ap (part_after (option_map R last)) head

            pub for_inner : (fault : FrontFault) → IsFirst fault ((R inner).faults true two) → Told fault (reading_at file raw place)
            for_inner fault h =
                told_at fault raw (For first test last inner) _ is (reading-For first test last inner)
                (first_right fault _ _ head_faults (first_right fault _ _ test_faults (first_right fault _ _ last_faults
                (subst (λ (x : BodyNames). IsFirst fault ((R inner).faults true x)) behind h))))

            pub for_done : (ti : Placed) (three new : BodyNames)
                → ((R inner).faults true two ≡ []) × (ti ≡ (R inner).becomes two) × (three ≡ (R inner).after two)
                → new ≡ closed three
                → Done (becomes.For made te tl ti) new (reading_at file raw place)
            for_done ti three new hi closes =
                let B : BodyNames = for_body (map R first) (option_map R last) body in
                let H : BodyNames = for_head (map R first) body in
                let inner_faults : (R inner).faults true B ≡ [] = subst (λ (x : BodyNames). (R inner).faults true x ≡ []) behind hi.0 in
                let em : made ≡ sequence_becomes (map R first) (opened body) = hf.1 ∙ ap (sequence_becomes (map R first)) opens in
                let et : te ≡ optional_of file H test = ht.1 ∙ ap (λ (x : BodyNames). optional_of file x test) head in
                let el : tl ≡ part_becomes (option_map R last) H = hl.1 ∙ ap (part_becomes (option_map R last)) head in
                let ei : ti ≡ (R inner).becomes B = hi.1 ∙ ap (λ (x : BodyNames). (R inner).becomes x) behind in
                let tree : becomes.For made te tl ti ≡ becomes.For (sequence_becomes (map R first) (opened body)) (optional_of file H test) (part_becomes (option_map R last) H) ((R inner).becomes B) =
                ap (λ (x : List Placed). becomes.For x te tl ti) em
                ∙ ap (λ (x : Option Expr). becomes.For (sequence_becomes (map R first) (opened body)) x tl ti) et
                ∙ ap (λ (x : Option Placed). becomes.For (sequence_becomes (map R first) (opened body)) (optional_of file H test) x ti) el
                ∙ ap (λ (x : Placed). becomes.For (sequence_becomes (map R first) (opened body)) (optional_of file H test) (part_becomes (option_map R last) H) x) ei in
                done_at (becomes.For made te tl ti) new raw (For first test last inner) _ is (reading-For first test last inner) (
                  none_of _ _ head_faults (none_of _ _ test_faults (none_of _ _ last_faults inner_faults)),
                  tree,
                  closes ∙ ap closed (hi.2 ∙ ap (λ (x : BodyNames). (R inner).after x) behind),
                )

    -- ---- declarations

    pub declare_done : (w : Width) (x : RawName) (e : Option RawExpr) (slot : ℕ) (te : Option Expr) (seen : BodyNames)
        → local_faults body x ≡ [] → slot ≡ length body.slots → seen ≡ with_local x.text w body
        → (optional_faults file seen e ≡ []) × (te ≡ optional_of file seen e)
        → (local_faults body x ++ optional_faults file (with_local x.text w body) e ≡ [])
        × (becomes.Declare slot te ≡ becomes.Declare (length body.slots) (optional_of file (with_local x.text w body) e)) × (seen ≡ with_local x.text w body)
    declare_done w x e slot te seen fx number scope he =
        let fe : optional_faults file (with_local x.text w body) e ≡ [] = subst (λ (b : BodyNames). optional_faults file b e ≡ []) scope he.0 in (
          none_of _ _ fx fe,
          ap (λ (n : ℕ). becomes.Declare n te) number ∙ ap (λ (i : Option Expr). becomes.Declare (length body.slots) i) (he.1 ∙ ap (λ (b : BodyNames). optional_of file b e) scope),
          scope,
        )

    pub declare_reads : (r : Result Stmt FrontFault) (new : BodyNames) (raw : RawStmt) (w : Width) (x : RawName) (e : Option RawExpr) → raw ≡ Declare w x e
        → Reads r (local_faults body x ++ optional_faults file (with_local x.text w body) e) (becomes.Declare (length body.slots) (optional_of file (with_local x.text w body) e)) new (with_local x.text w body)
        → Reads r ((reading_at file raw place).faults l body) ((reading_at file raw place).becomes body).stmt new ((reading_at file raw place).after body)
    declare_reads r new raw w x e is h =
        subst (λ (y : Reading). Reads r (y.faults l body) (y.becomes body).stmt new (y.after body))
        (sym (ap (λ (y : RawStmt). reading_at file y place) is ∙ fold-Declare Place Reading (reading_step file) placed_step w x e place)) h
