use Rattle.std.proofs.Common.{◌≡◌, List, ℕ, Err, subst}
use Rattle.gob_outside.specs.Files.{IsLongerThan}
use Rattle.gob_outside.specs.declared.files.FileFail.TheVariants.{TooLong}
use Rattle.gobpie_main.proofs.Loads.{longer_loads}
use Rattle.gobpie_main.proofs.loading.load.Goals as goal

pub returns-in-Err-TooLong-clause-loaded : goal.returns-in-Err-TooLong-clause-loaded
returns-in-Err-TooLong-clause-loaded g c =
    let files = g.F.Files.seen c.args.files.now in
    let is : c.load.result ≡ Err (TooLong c.in-Err-TooLong.field-0-0) = cc in
    longer_loads files c.args.name.now c.args.limit
    (subst (λ (n : List ℕ). IsLongerThan files n c.args.limit) c.in-Some.ensures.bytes (c.load.ensures.too_long c.in-Err-TooLong.field-0-0 is))
