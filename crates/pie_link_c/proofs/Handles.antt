-- The machine values of a `BoxPointer` and of a handle of any type, and the ownership of a closed and of an open handle.
-- Assumes `Logic`.
use Rattle.pie_link_c.proofs.Names.{Goal, Good, Item, List, Logic, None, Option, Ptr, RattleType, RawPtr, Seq, Some, Step, Ura, Val, Valss, []}
use Rattle.pie_link_c.proofs.Names.{and_tt, bare, block_ptr, box_owns, dnil, drop, ent, feq_i, feq_l, fjoin, fpack, fpick, fsep, fsplit, fst∗}
use Rattle.pie_link_c.proofs.Names.{ghosts, handle_tells, has_ty, in_a_block, layout, lone, move, never, nothing, null_ptr, of_list, ptr_val, refl}
use Rattle.pie_link_c.proofs.Names.{sem, step, subst, use1, vcons, vnil, vptr, vstruct, within, ‵, ℕ, ◌$◌, ◌++◌, ◌∷◌, ◌≡◌}
use mathlib.Core.Bool.{true, ◌&&◌}
use lib.Dec.{T}
use mir.Syntax.{impl, tnil, Sym}
use mir.Val.{WT}
use denote.Param.Laws.{Laws}
use denote.Struct.Owning.{shape}
use Rattle.core.specs.declared.alloc.Allocator.{Ghosts}
use Rattle.core.proofs.alloc.Calls.{Al}
use Rattle.pie_link_c.specs.contracts.handle.BoxPointer as loose
use Rattle.pie_link_c.specs.{Global}
use Rattle.pie_link_c.specs.Owned.{owns_if}
use base.Fml.{Fml}
use base.Fraction.{full_share}
use base.Logic.{snd∗, via, guard, guard_i}
use types.Kit.{given, learn}
use contract.Monad.{fact_use}
use denote.RawPtr.{lies_at, Testable}
use denote.Struct.Struct.{Shape, Struct}
use Rattle.std.proofs.GlobalToken.{dealloc_token-Testable}
use Rattle.std.specs.contracts.alloc.Global as heap
use Rattle.std.proofs.alloc.Global.TheLaws as heap_laws

abbrev pub both : Val → Val → Val
both v w = vstruct (vcons v (vcons w vnil))

module _ (R Z : RattleType) (L : Laws Z) (g : Ghosts Z.Denot) where
  abbrev pub BoxPointer : RattleType
  BoxPointer = loose.the_row R Z g

  abbrev pub al : Al
  al = record { row = Z; laws = L; g = g; d = impl [] tnil dnil; drops = impl [] tnil dnil }

  pub loose_good : (b o : ℕ) (h : Val) → Good (layout Z) h → T (has_ty (layout Z) h && true) × WT (both (vptr b o) h)
  loose_good b o h fits = (and_tt (has_ty (layout Z) h) fits.0, (tt, (fits.1, tt)))

  module _ {M : Type 1} {𝓤 : Ura M} {𝓛 : Logic 𝓤} {K : Type 0} {Γ : List (Item 𝓤)} {G : Goal 𝓤 𝓛.H} where
    pub loose_out : K → (d : BoxPointer.Denot) (vs : List Val)
        → ((b o : ℕ) (h : Val) → d.at ≡ block_ptr b o → vs ≡ both (vptr b o) h ∷ [] → Good (layout Z) h
        → Seq K 𝓛 (‵ (box_owns (g.dealloc_token d.alloc) R (block_ptr b o) d.value) ∷ ‵ (Z.own_val d.alloc (h ∷ [])) ∷ Γ) G)
        → Seq K 𝓛 (‵ (BoxPointer.own_val d vs) ∷ Γ) G
    loose_out t d vs k =
        fsplit t $ fpick t (λ vss. fsplit t $ feq_l t (λ ev. fsplit t $ feq_l t (λ ep. fsplit t $
        handle_tells al t d.alloc vss.1.0 (λ h ea fits. move t (1 ∷ []) $ drop t $ move t (1 ∷ []) $
        in_a_block t d.at (λ p. box_owns (g.dealloc_token d.alloc) R p d.value)
        (fst∗ 𝓤 (never 𝓤) (sem 𝓛 (g.dealloc_token d.alloc (bare (lone R.mir)) null_ptr))) (λ b o e. k b o h e
        (subst (λ (p : Ptr). vs ≡ vstruct (of_list (ptr_val p ∷ h ∷ [])) ∷ []) e
        (subst (λ (ws : List Val). vs ≡ vstruct (of_list (ptr_val d.at ∷ (ws ++ []))) ∷ []) ea
        (subst (λ (ps : List Val). vs ≡ vstruct (of_list (ps ++ (vss.1.0 ++ []))) ∷ []) ep ev))) fits)))))

    pub loose_in : K → (b o : ℕ) (h : Val) (a : Z.Denot) (x : R.Denot)
        → Step K 𝓛 (‵ (BoxPointer.own_val (record { at = block_ptr b o; alloc = a; value = x }) (both (vptr b o) h ∷ [])) ∷ Γ) G
        (‵ (box_owns (g.dealloc_token a) R (block_ptr b o) x) ∷ ‵ (Z.own_val a (h ∷ [])) ∷ Γ) G
    loose_in t b o h a x = step (λ s. let v : Val = both (vptr b o) h in
        nothing t $ move t (2 ∷ 0 ∷ []) $ fjoin t $ feq_i t (List Val) (vptr b o ∷ []) (vptr b o ∷ []) refl $ fjoin t $
        feq_i t (List Val) (v ∷ []) (v ∷ []) refl $ fjoin t $
        fpack t (Valss (RawPtr ∷ Z ∷ [])) (within (shape (loose.the_type R Z g)) (block_ptr b o, (a, tt)) (v ∷ [])) (vptr b o ∷ [], (h ∷ [], tt)) $
        fjoin t $ s)

-- ---- a handle

abbrev pub Z : RattleType
Z = heap.the_row

module _ (R : RattleType) where
  module _ {M : Type 1} {𝓤 : Ura M} (𝓛 : Logic 𝓤) (a : Global) (p : Ptr) (x : R.Denot) where
    tested : ent 𝓤 (sem 𝓛 (box_owns (ghosts.dealloc_token a) R p x)) (guard 𝓤 (Testable p) (sem 𝓛 (box_owns (ghosts.dealloc_token a) R p x)))
    tested = fact_use 𝓤 (Testable p)
        (via 𝓤 _ (snd∗ 𝓤 (sem 𝓛 (lies_at R full_share p x)) (sem 𝓛 (ghosts.dealloc_token a (bare (lone R.mir)) p)))
        (dealloc_token-Testable 𝓛 a (bare (lone R.mir)) p)) (guard_i 𝓤 (Testable p) (sem 𝓛 (box_owns (ghosts.dealloc_token a) R p x)))

  -- the ownership of a handle of this name: its two fields, and the rest
  abbrev fields_of : Sym → Shape
  fields_of name = record { name = name; args = []; types = []; fields = RawPtr ∷ Z ∷ [] }

  abbrev owned : Sym → Ptr → Global → Fml → List Val → Fml
  owned name p a rest vs = fsep ((Struct (fields_of name)).own_val (p, (a, tt)) vs) rest

  module _ {M : Type 1} {𝓤 : Ura M} {𝓛 : Logic 𝓤} {K : Type 0} {Γ : List (Item 𝓤)} {G : Goal 𝓤 𝓛.H} where
    pub handle_out : K → (name : Sym) (p : Ptr) (a : Global) (rest : Fml) (vs : List Val)
        → ((h : Val) → vs ≡ vstruct (of_list (ptr_val p ∷ h ∷ [])) ∷ [] → Good (layout Z) h
        → Seq K 𝓛 (‵ rest ∷ ‵ (Z.own_val a (h ∷ [])) ∷ Γ) G)
        → Seq K 𝓛 (‵ (owned name p a rest vs) ∷ Γ) G
    handle_out t name p a rest vs k =
        fsplit t $ fpick t (λ vss. fsplit t $ feq_l t (λ ev. fsplit t $ feq_l t (λ ep. fsplit t $
        handle_tells (al R Z heap_laws.the_row_laws ghosts) t a vss.1.0 (λ h ea fits. move t (1 ∷ []) $ drop t $ move t (1 ∷ []) $
        k h (subst (λ (ws : List Val). vs ≡ vstruct (of_list (ptr_val p ∷ (ws ++ []))) ∷ []) ea
        (subst (λ (ps : List Val). vs ≡ vstruct (of_list (ps ++ (vss.1.0 ++ []))) ∷ []) ep ev)) fits))))

    pub handle_in : K → (name : Sym) (p : Ptr) (a : Global) (rest : Fml) (h : Val)
        → Step K 𝓛 (‵ (owned name p a rest (both (ptr_val p) h ∷ [])) ∷ Γ) G (‵ rest ∷ ‵ (Z.own_val a (h ∷ [])) ∷ Γ) G
    handle_in t name p a rest h = step (λ s. let v : Val = both (ptr_val p) h in
        nothing t $ move t (2 ∷ 0 ∷ []) $ fjoin t $ feq_i t (List Val) (ptr_val p ∷ []) (ptr_val p ∷ []) refl $ fjoin t $
        feq_i t (List Val) (v ∷ []) (v ∷ []) refl $ fjoin t $
        fpack t (Valss (RawPtr ∷ Z ∷ [])) (within (fields_of name) (p, (a, tt)) (v ∷ [])) (ptr_val p ∷ [], (h ∷ [], tt)) $ fjoin t $ s)

    -- a handle is closed and its pointer null, or it is open and its pointer is that of a box, which may be compared
    -- with null
    pub closed_or_open : K → (a : Global) (p : Ptr) (o : Option R.Denot)
        → (o ≡ None → p ≡ null_ptr → Seq K 𝓛 Γ G)
        → ((b c : ℕ) (x : R.Denot) → o ≡ Some x → p ≡ block_ptr b c → Testable (block_ptr b c)
        → Seq K 𝓛 (‵ (box_owns (ghosts.dealloc_token a) R (block_ptr b c) x) ∷ Γ) G)
        → Seq K 𝓛 (‵ (owns_if R a p o) ∷ Γ) G
    closed_or_open t a p None shut opened = feq_l t (λ e. shut refl e)
    closed_or_open t a p (Some x) shut opened =
        in_a_block t p (λ q. box_owns (ghosts.dealloc_token a) R q x) (fst∗ 𝓤 (never 𝓤) (sem 𝓛 (ghosts.dealloc_token a (bare (lone R.mir)) null_ptr)))
        (λ b c e.
        use1 𝓛 (given (Testable (block_ptr b c)) (‵ (box_owns (ghosts.dealloc_token a) R (block_ptr b c) x))) (tested 𝓛 a (block_ptr b c) x) $
        learn t (λ may. opened b c x refl e may))
