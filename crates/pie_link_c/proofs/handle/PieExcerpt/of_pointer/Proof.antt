-- `of_pointer` moves two fields with the resources that they own.
use Rattle.pie_link_c.proofs.Names.{◌≡◌, List, [], ◌∷◌, ◌++◌, refl, sym, subst, Val, vptr, SProp, ent, id⊢, emp, ftrue, fsep, WpFn, ‵, raw, ◌⊛◌, ◌$◌}
use Rattle.pie_link_c.proofs.Names.{◌∵◌, !, qed, by, keep, drop, split, fsplit, fjoin, suffices, use0, stop, fld, of_opd, no_more, and_then, returns}
use Rattle.pie_link_c.proofs.Names.{enter, alloc_all, pass_all, free_all, look_at, get, get_in, sets, agg, sub, whole, fact, fact_i, tables, yes}
use Rattle.pie_link_c.proofs.Names.{RattleType, plain, block_ptr, nothing, Stays, stay_dropped, walk_of, Goes-dropped, Some, ghosts, proved_at}
use Rattle.pie_link_c.proofs.Names.{leaves, owns_text_if}
use Rattle.pie_link_c.specs.contracts.excerpt.ExcerptText.{the_row as R}
use Rattle.pie_link_c.specs.contracts.handle.PieExcerpt.{the_row as Handle, struct}
use Rattle.pie_link_c.specs.contracts.handle.PieExcerpt.of_pointer.{ended, clauses}
use Rattle.pie_link_c.specs.contracts.handle.PieExcerpt.of_pointer.Key.{name as #self}
use Rattle.std.proofs.alloc.Global.TheLaws as heap_laws
use Rattle.pie_link_c.proofs.Handles.{both, BoxPointer, loose_good, loose_out, Z, handle_in}
use Rattle.pie_link_c.proofs.handle.PieExcerpt.of_pointer.Statement.{statement}
use Rattle.pie_link_c.proofs.handle.PieExcerpt.of_pointer.Code as code

pub of_pointer_spec : {M : Type 1} → statement M
of_pointer_spec 𝓤 𝓛 𝓜 𝓡 wired =
    let H = 𝓛.H in let 𝓣 = tables 𝓤 H 𝓜 𝓡 𝓡.env in let En = ended in let c = clauses 𝓛 𝓜.mem 𝓡.returns in
    let fn = code.function in let LZ = heap_laws.the_row_laws in let Lr : RattleType = BoxPointer R Z LZ ghosts in
    let hs : Stays En.signature.params En.kept = (stay_dropped (plain (λ _. Lr)) yes, tt) in
    proved_at 𝓛 En hs c 𝓜 𝓡 (Goes-dropped 𝓛 0 (plain (λ _. Lr)) yes (λ κs x f. refl), tt) #self fn (code.unfolded 𝓤 H 𝓜 𝓡 wired) (λ z are.
    let d = z.0.3.0 in let a = d.alloc in
    let Post : Val → SProp 𝓤 = (walk_of 𝓛 En hs c).post z in let Run : List Val → SProp 𝓤 = λ ws. WpFn 𝓤 H 𝓣.C 𝓣.Λ fn ws Post in
    qed 𝓛 ((‵ ftrue ⊛ ‵ (fsep (Lr.own_val d z.0.4.0) ftrue)) ∷ raw (emp 𝓤) ∷ []) ∵ split ! $ drop ! $ fsplit ! $
    loose_out R Z LZ ghosts ! d z.0.4.0 (λ b o h e ws fits.
    let w : Val = both (vptr b o) h in let typed = loose_good R Z LZ ghosts b o h fits in
    let made : Handle.Denot = record { at = block_ptr b o; alloc = a; text = Some d.value } in
    suffices ! (Run (w ∷ [])) (subst (λ (us : List Val). ent 𝓤 (Run (w ∷ [])) (Run us)) (sym (λ i. ws i ++ [])) (id⊢ 𝓤 (Run (w ∷ [])))) $
    enter ! 𝓣.C 𝓣.Λ fn (w ∷ []) Post $ alloc_all ! (λ l. pass_all ! refl (typed, tt) $
    sets ! (of_opd ! (get_in ! (fld ! refl (stop !)) (sub ! 0 refl (whole !)))) refl (tt, tt) $
    sets ! (of_opd ! (get_in ! (fld ! refl (stop !)) (sub ! 1 refl (whole !)))) refl fits $
    sets ! (of_opd ! (get ! refl)) refl (tt, tt) $
    sets ! (agg ! (and_then ! (get ! refl) (and_then ! (get ! refl) (no_more !)))) refl typed $
    handle_in R ! struct.name (block_ptr b o) a (owns_text_if a (block_ptr b o) (Some d.value)) h $
    use0 𝓛 (raw (fact 𝓤 (Some d.value ≡ Some d.value))) (fact_i 𝓤 (Some d.value ≡ Some d.value) (emp 𝓤) refl) $ nothing ! $ nothing ! $ fjoin ! $
    nothing ! $
    returns ! (look_at ! 0 refl) $ free_all ! refl $ keep ! (0 ∷ 1 ∷ 3 ∷ 2 ∷ []) $ by ! (leaves 𝓛 En hs c z w made (tt, tt) (tt, tt)))))
