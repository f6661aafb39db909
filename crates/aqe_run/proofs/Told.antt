-- Facts of the files that a store tells.
use Rattle.std.proofs.Common.{Option, Some, None}
use Rattle.aqe_store.specs.Files.{Entries}
use Rattle.aqe_store.specs.Told.{KeepsFiles, WhereTold}

-- what is told after a step was told before it
pub told_before : (P : Entries → Type 0) (told told' : Option Entries) → KeepsFiles told told' → WhereTold told' P → WhereTold told P
told_before P None told' k h = tt
told_before P (Some files) told' k h = rw k at h

pub told_all : (P : Entries → Type 0) (told : Option Entries) → ((files : Entries) → P files) → WhereTold told P
told_all P None f = tt
told_all P (Some files) f = f files

pub told_one : (P R : Entries → Type 0) (told : Option Entries) → ((files : Entries) → P files → R files) → WhereTold told P → WhereTold told R
told_one P R None f p = tt
told_one P R (Some files) f p = f files p

pub told_both : (P Q R : Entries → Type 0) (told : Option Entries) → ((files : Entries) → P files → Q files → R files) → WhereTold told P → WhereTold told Q → WhereTold told R
told_both P Q R None f p q = tt
told_both P Q R (Some files) f p q = f files p q

-- a fact of the files before a step, and one of those after it
pub told_then : (P Q R : Entries → Type 0) (told told' : Option Entries) → KeepsFiles told told' → ((files : Entries) → P files → Q files → R files) → WhereTold told P → WhereTold told' Q → WhereTold told R
told_then P Q R told told' k f p q = told_both P Q R told f p (told_before Q told told' k q)
