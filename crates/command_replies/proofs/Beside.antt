-- A file beside the sources of a folder.
use Rattle.std.proofs.Common.{◌≡◌, ◌||◌, ℕ, List, Bool, true, false, codes, refl, sym, subst, ◌∙◌}
use Rattle.std.specs.Str.{bytes_eq}
use Rattle.std.specs.FinMap.{get, insert, same_map, slice_cmp-IsAntisymmetric, nat_cmp-IsAntisymmetric}
use Rattle.std.specs.Cmp.Lexicographic.{bytes_decides, nat_list_cmp_total}
use Rattle.rotor_base.specs.Stem.{is_source_name}
use Rattle.rotor_base.specs.declared.source.SourceFile.{SourceFile}
use Rattle.tree_io.specs.Outside.{FileMap}
use Rattle.project_load.specs.Listed.{is_listed_name}
use Rattle.tree_io.specs.Writes.{after}
use Rattle.apply_journal.specs.Recovered.{project_in}
use Rattle.apply_journal.proofs.Maps.{named, get_here, get_other, apart, same_project, get_after_other, get_after_same}

-- the writes of other files leave it, and it leaves them
pub beside : (files : List SourceFile) (held : FileMap) (name bytes : List ℕ) → named name files ≡ false
    → after files (insert held name bytes) ≡ insert (after files held) name bytes
beside files held name bytes none = same_map nat_list_cmp_total (slice_cmp-IsAntisymmetric nat_cmp-IsAntisymmetric) _ _ gets where
  gets : (q : List ℕ) → get (after files (insert held name bytes)) q ≡ get (insert (after files held) name bytes) q
  gets q = by (bytes_eq q name) refl where
    by : (b : Bool) → bytes_eq q name ≡ b → get (after files (insert held name bytes)) q ≡ get (insert (after files held) name bytes) q
    by true e =
        let same : q ≡ name = (bytes_decides q name).0 e in
        subst (λ (w : List ℕ). get (after files (insert held name bytes)) w ≡ get (insert (after files held) name bytes) w) (sym same)
        (get_after_other files (insert held name bytes) name none ∙ get_here held name bytes ∙ sym (get_here (after files held) name bytes))
    by false e =
        get_after_same files (insert held name bytes) held q (λ n. get_other held name bytes q e) ∙ sym (get_other (after files held) name bytes q e)

-- it is no part of the project
pub same_beside : (held : FileMap) (name bytes : List ℕ) → is_listed_name name ≡ false → project_in (insert held name bytes) ≡ project_in held
same_beside held name bytes other =
    same_project (insert held name bytes) held (λ q counted. get_other held name bytes q (apart is_listed_name q name counted other))

-- and has no source's name
pub no_source : (name : List ℕ) → is_listed_name name ≡ false → is_source_name name ≡ false
no_source name other = by (is_source_name name) other where
  by : (b : Bool) → (b || bytes_eq name (codes "rotor.units")) ≡ false → b ≡ false
  by true e = cc
  by false e = refl
