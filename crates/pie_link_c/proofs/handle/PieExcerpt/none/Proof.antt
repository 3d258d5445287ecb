-- `none` makes a handle whose pointer is null, which owns nothing.
use Rattle.pie_link_c.proofs.Names.{◌≡◌, List, [], ◌∷◌, ◌++◌, refl, sym, subst, Val, has_ty, SProp, ent, id⊢, emp, ftrue, fsep, WpFn, ‵, raw, ◌⊛◌}
use Rattle.pie_link_c.proofs.Names.{◌$◌, ◌∵◌, !, qed, by, keep, drop, split, fsplit, fjoin, feq_i, suffices, use0, lit, no_more, and_then, returns}
use Rattle.pie_link_c.proofs.Names.{enter, alloc_all, pass_all, free_all, look_at, get, sets, agg, fact, fact_i, tables, yes, plain, Ptr, null_ptr}
use Rattle.pie_link_c.proofs.Names.{ptr_val, nothing, layout, Stays, stay_dropped, walk_of, Goes-dropped, None, Ptr-Good, ghosts, and_tt, proved_at}
use Rattle.pie_link_c.proofs.Names.{leaves, owns_text_if, handle_tells}
use Rattle.pie_link_c.specs.contracts.excerpt.ExcerptText.{the_row as R}
use Rattle.pie_link_c.specs.contracts.handle.PieExcerpt.{the_row as Handle, struct}
use Rattle.pie_link_c.specs.contracts.handle.PieExcerpt.none.{ended, clauses}
use Rattle.pie_link_c.specs.contracts.handle.PieExcerpt.none.Key.{name as #self}
use Rattle.std.proofs.alloc.Global.TheLaws as heap_laws
use Rattle.pie_link_c.proofs.Handles.{both, al, Z, handle_in}
use Rattle.pie_link_c.proofs.handle.PieExcerpt.none.Statement.{statement}
use Rattle.pie_link_c.proofs.handle.PieExcerpt.none.Code as code

abbrev None-is : Handle.Denot → Type 0
None-is d = d.text ≡ None

pub none_spec : {M : Type 1} → statement M
none_spec 𝓤 𝓛 𝓜 𝓡 wired =
    let H = 𝓛.H in let 𝓣 = tables 𝓤 H 𝓜 𝓡 𝓡.env in let En = ended in let c = clauses 𝓛 𝓜.mem 𝓡.returns in
    let fn = code.function in let LZ = heap_laws.the_row_laws in
    let hs : Stays En.signature.params En.kept = (stay_dropped (plain (λ _. Z)) yes, tt) in
    proved_at 𝓛 En hs c 𝓜 𝓡 (Goes-dropped 𝓛 0 (plain (λ _. Z)) yes (λ κs x f. refl), tt) #self fn (code.unfolded 𝓤 H 𝓜 𝓡 wired) (λ z are.
    let a = z.0.3.0 in
    let Post : Val → SProp 𝓤 = (walk_of 𝓛 En hs c).post z in let Run : List Val → SProp 𝓤 = λ ws. WpFn 𝓤 H 𝓣.C 𝓣.Λ fn ws Post in
    qed 𝓛 ((‵ ftrue ⊛ ‵ (fsep (Z.own_val a z.0.4.0) ftrue)) ∷ raw (emp 𝓤) ∷ []) ∵ split ! $ drop ! $ fsplit ! $
    handle_tells (al R Z LZ ghosts) ! a z.0.4.0 (λ h ws fits.
    let w : Val = both (ptr_val null_ptr) h in
    let made : Handle.Denot = record { at = null_ptr; alloc = a; text = None } in
    suffices ! (Run (h ∷ [])) (subst (λ (us : List Val). ent 𝓤 (Run (h ∷ [])) (Run us)) (sym (λ i. ws i ++ [])) (id⊢ 𝓤 (Run (h ∷ [])))) $
    enter ! 𝓣.C 𝓣.Λ fn (h ∷ []) Post $ alloc_all ! (λ l. pass_all ! refl (fits, tt) $
    sets ! (agg ! (and_then ! (lit ! tt) (and_then ! (get ! refl) (no_more !)))) refl
    (and_tt (has_ty (layout Z) h) fits.0, ((Ptr-Good null_ptr).1, (fits.1, tt))) $
    feq_i ! Ptr null_ptr null_ptr refl $ handle_in R ! struct.name null_ptr a (owns_text_if a null_ptr None) h $
    use0 𝓛 (raw (fact 𝓤 (None-is made))) (fact_i 𝓤 (None-is made) (emp 𝓤) refl) $ nothing ! $ nothing ! $ fjoin ! $ nothing ! $
    returns ! (look_at ! 0 refl) $ free_all ! refl $ keep ! (0 ∷ 1 ∷ 3 ∷ 2 ∷ []) $ by ! (leaves 𝓛 En hs c z w made (tt, tt) (tt, tt)))))
