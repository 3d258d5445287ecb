-- `into_pointer` compares the pointer with null, and moves it.
use Rattle.pie_link_c.proofs.Names.{◌≡◌, List, [], ◌∷◌, ◌++◌, refl, sym, subst, lit<, Val, vptr, vcons, vnil, has_ty, SProp, ent, id⊢, emp, ftrue}
use Rattle.pie_link_c.proofs.Names.{fsep, WpFn, ‵, raw, ◌⊛◌, at_ret, ◌$◌, ◌∵◌, !, qed, by, keep, drop, split, fsplit, fjoin, suffices, use0, use1}
use Rattle.pie_link_c.proofs.Names.{stop, fld, lit, of_opd, bin, no_more, and_then, first, branches, exec, returns, enter, alloc_all, pass_all}
use Rattle.pie_link_c.proofs.Names.{free_all, look_at, get, get_in, sets, sets_last, env, agg, sub, whole, live, fact, fact_i, tables, yes}
use Rattle.pie_link_c.proofs.Names.{RattleType, type_at, plain, Ptr, block_ptr, null_ptr, ptr_val, tests_null, nothing, layout, Stays, stay_dropped}
use Rattle.pie_link_c.proofs.Names.{walk_of, Goes-dropped, None, Some, after, Ptr-Good, Good, Some-of, none_of, ghosts, and_tt, proved_at, leaves, R}
use Rattle.pie_link_c.proofs.Names.{Handle, struct, owns_port_if}
use Rattle.pie_link_c.specs.contracts.handle.PiePort.into_pointer.{ended, clauses}
use Rattle.pie_link_c.specs.contracts.handle.PiePort.into_pointer.Key.{name as #self}
use Rattle.std.proofs.alloc.Global.TheLaws as heap_laws
use Rattle.pie_link_c.proofs.Handles.{both, BoxPointer, loose_good, loose_in, Z, handle_out, closed_or_open}
use Rattle.pie_link_c.proofs.handle.PiePort.into_pointer.Statement.{statement}
use Rattle.pie_link_c.proofs.handle.PiePort.into_pointer.Code as code

pub into_pointer_spec : {M : Type 1} → statement M
into_pointer_spec 𝓤 𝓛 𝓜 𝓡 wired =
    let H = 𝓛.H in let 𝓣 = tables 𝓤 H 𝓜 𝓡 𝓡.env in let En = ended in let c = clauses 𝓛 𝓜.mem 𝓡.returns in
    let fn = code.function in let LZ = heap_laws.the_row_laws in let Lr : RattleType = BoxPointer R Z LZ ghosts in
    let hs : Stays En.signature.params En.kept = (stay_dropped (plain (λ _. Handle)) yes, tt) in
    proved_at 𝓛 En hs c 𝓜 𝓡 (Goes-dropped 𝓛 0 (plain (λ _. Handle)) yes (λ κs x f. refl), tt) #self fn (code.unfolded 𝓤 H 𝓜 𝓡 wired) (λ z are.
    let κs = z.0.0 in let d = z.0.3.0 in let a = d.alloc in
    let Post : Val → SProp 𝓤 = (walk_of 𝓛 En hs c).post z in let Run : List Val → SProp 𝓤 = λ ws. WpFn 𝓤 H 𝓣.C 𝓣.Λ fn ws Post in
    let Out : RattleType = type_at En.signature.result κs in
    let runs : (w : Val) → z.0.4.0 ≡ w ∷ [] → ent 𝓤 (Run (w ∷ [])) (Run (z.0.4.0 ++ [])) =
    λ w e. subst (λ (us : List Val). ent 𝓤 (Run (w ∷ [])) (Run us)) (sym (λ i. e i ++ [])) (id⊢ 𝓤 (Run (w ∷ []))) in
    qed 𝓛 ((‵ ftrue ⊛ ‵ (fsep (Handle.own_val d z.0.4.0) ftrue)) ∷ raw (emp 𝓤) ∷ []) ∵ split ! $ drop ! $ fsplit ! $
    handle_out R ! struct.name d.at a (owns_port_if a d.at d.port) z.0.4.0 (λ h ws fits.
    closed_or_open R ! a d.at d.port
    (λ is_none is_null.
    let w : Val = both (ptr_val null_ptr) h in
    let e : z.0.4.0 ≡ w ∷ [] = subst (λ (p : Ptr). z.0.4.0 ≡ both (ptr_val p) h ∷ []) is_null ws in
    suffices ! (Run (w ∷ [])) (runs w e) $
    enter ! 𝓣.C 𝓣.Λ fn (w ∷ []) Post $
    alloc_all ! (λ l. pass_all ! refl ((and_tt (has_ty (layout Z) h) fits.0, ((Ptr-Good null_ptr).1, (fits.1, tt))), tt) $ let Ev = env fn.locals l in
    sets ! (of_opd ! (get_in ! (fld ! refl (stop !)) (sub ! 0 refl (whole !)))) refl (Ptr-Good null_ptr) $
    sets ! (of_opd ! (get_in ! (fld ! refl (stop !)) (sub ! 1 refl (whole !)))) refl fits $
    sets ! (bin ! (get ! refl) (lit ! tt) tt) refl (tt, tt) $ first ! $ branches ! (get ! refl)
    (λ _. sets_last ! (agg ! (and_then ! (lit ! tt) (no_more !))) refl (tt, (record { fits = lit< tt }, tt)) $
    exec ! 𝓣.C 𝓣.Λ Ev (after 4 fn.body) (at_ret Ev Post) $
    sets ! (of_opd ! (get ! refl)) refl (tt, (record { fits = lit< tt }, tt)) $
    use0 𝓛 (‵ (Out.own_val None (live 0 vnil ∷ []))) (none_of 𝓛 Lr) $
    use0 𝓛 (raw (fact 𝓤 (d.port ≡ None))) (fact_i 𝓤 (d.port ≡ None) (emp 𝓤) is_none) $ nothing ! $ nothing ! $ fjoin ! $ nothing ! $
    returns ! (look_at ! 0 refl) $ free_all ! refl $ keep ! (0 ∷ 1 ∷ 3 ∷ 2 ∷ []) $ by ! (leaves 𝓛 En hs c z (live 0 vnil) None (tt, tt) (tt, tt)))
    (λ wrong. absurd wrong)))
    (λ b o x is_some is_block may.
    let w : Val = both (vptr b o) h in let typed = loose_good R Z LZ ghosts b o h fits in
    let e : z.0.4.0 ≡ w ∷ [] = subst (λ (p : Ptr). z.0.4.0 ≡ both (ptr_val p) h ∷ []) is_block ws in
    let v₁ : Val = live 1 (vcons w vnil) in let made : Lr.Denot = record { at = block_ptr b o; alloc = a; value = x } in
    let good : Good (layout Out) v₁ = (and_tt _ typed.0, (record { fits = lit< tt }, (typed.1, tt))) in
    suffices ! (Run (w ∷ [])) (runs w e) $
    enter ! 𝓣.C 𝓣.Λ fn (w ∷ []) Post $ alloc_all ! (λ l. pass_all ! refl (typed, tt) $ let Ev = env fn.locals l in
    sets ! (of_opd ! (get_in ! (fld ! refl (stop !)) (sub ! 0 refl (whole !)))) refl (tt, tt) $
    sets ! (of_opd ! (get_in ! (fld ! refl (stop !)) (sub ! 1 refl (whole !)))) refl fits $
    sets ! (bin ! (get ! refl) (lit ! tt) (tests_null (block_ptr b o) may)) refl (tt, tt) $ first ! $
    branches ! (get ! refl) (λ wrong. absurd wrong) (λ _.
    sets ! (of_opd ! (get ! refl)) refl (tt, tt) $
    sets ! (agg ! (and_then ! (get ! refl) (and_then ! (get ! refl) (no_more !)))) refl typed $
    sets_last ! (agg ! (and_then ! (lit ! tt) (and_then ! (get ! refl) (no_more !)))) refl good $
    exec ! 𝓣.C 𝓣.Λ Ev (after 4 fn.body) (at_ret Ev Post) $ sets ! (of_opd ! (get ! refl)) refl good $
    loose_in R Z LZ ghosts ! b o h a x $
    use1 𝓛 (‵ (Out.own_val (Some made) (v₁ ∷ []))) (Some-of 𝓛 Lr made w) $
    use0 𝓛 (raw (fact 𝓤 (d.port ≡ Some x))) (fact_i 𝓤 (d.port ≡ Some x) (emp 𝓤) is_some) $ nothing ! $ nothing ! $ fjoin ! $ nothing ! $
    returns ! (look_at ! 0 refl) $ free_all ! refl $ keep ! (0 ∷ 1 ∷ 3 ∷ 2 ∷ []) $ by ! (leaves 𝓛 En hs c z v₁ (Some made) (tt, tt) (tt, tt)))))))
