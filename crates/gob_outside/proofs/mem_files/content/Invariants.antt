use Rattle.std.proofs.Common.{◌≡◌, drop}
use Rattle.gob_outside.specs.MemFiles.{content_of}
use Rattle.gob_outside.proofs.mem_files.content.Given as goal

abbrev pub invariant-loop-file : goal.invariant-loop-file
invariant-loop-file l = content_of l.files l.name ≡ content_of (drop l.file-index l.files) l.name
