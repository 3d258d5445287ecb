-- Names of lower crates that the files of this folder import.
pub use Rattle.pie_link_c.specs.{PieEvent, RawParams, Event, CallerView, LinkView, HasSameNumbers, params_after, params_in, struct_of}
pub use Rattle.pie_link_c.specs.Owned.{owns_port_if, owns_text_if}
pub use Rattle.std.proofs.Common.{List, [], add-one, ap, arith, get_or, length, lit<, map, min, refl, slice_set, subst, suc, sym, take, zero, ℕ, ◌++◌}
pub use Rattle.std.proofs.Common.{◌+◌, ◌-◌, ◌<◌, ◌∙◌, ◌∷◌, ◌≡◌, ◌≤◌}
pub use Rattle.std.proofs.lemmas.List.{drop_more}
pub use Rattle.std.proofs.raw_atomic.Walks.{leaves, proved_at}
pub use Rattle.std.specs.contracts.impls.GlobalAllocator.TheImpl.{ghosts}
pub use Rattle.std.specs.declared.option.Option.{Option}
pub use Rattle.std_alloc.proofs.BoxSteps.Steps.{box_in, box_out}
pub use Rattle.std_alloc.proofs.ResultValues.{and_tt}
pub use Rattle.std_alloc.specs.Box.Ownership.{box_owns}
pub use Rattle.core.proofs.alloc.Calls.{Goes-blank, handle_tells}
pub use Rattle.core.proofs.alloc.Shapes.{after}
pub use Rattle.core.proofs.atomic.Steps.{Ptr-Good, fm}
pub use Rattle.core.proofs.cell.Inside.{Good}
pub use Rattle.core.proofs.option.Made.{Some-of, none_of}
pub use Rattle.core.specs.declared.option.Option.TheVariants.{None, Some}
pub use Rattle.pie_link_c.specs.contracts.handle.PiePort.{struct, the_row as Handle}
pub use Rattle.pie_link_c.specs.contracts.port.Port.{the_row as R}
pub use base.Fml.{flft, fsep, ftrue}
pub use base.Logic.{SProp, emp, ent, fst∗, id⊢, never}
pub use contract.Monad.{fact, fact_i}
pub use contract.Running.{tables}
pub use denote.Builtin.{RawPtr}
pub use denote.Exit.{no, yes}
pub use denote.Memory.{lone}
pub use denote.Param.{bounded, layout, param}
pub use denote.Param.Laws.{param_laws}
pub use denote.RattleType.{RattleType, Valss, owns}
pub use denote.RawPtr.{Ptr, block_ptr, in_a_block, null_ptr, ptr_val, tests_null}
pub use denote.Signature.{plain, type_at, types_at}
pub use denote.Steps.{nothing, only}
pub use denote.Struct.Struct.{within}
pub use denote.Triple.Spec.{triple_of}
pub use denote.Triple.Walked.{Goes-dropped, Stays, stay_dropped, walk_of}
pub use mir.MapTy.{inst_fn}
pub use mir.Raw.{raw as bare}
pub use mir.Syntax.{a_type, dcons, dnil}
pub use mir.Val.{Val, has_ty, of_list, vcons, vnil, vptr, vstruct}
pub use prog.Wp.{WpFn}
pub use seplogic.Ra.Ura.{Ura}
pub use types.ByLocal.{alloc_all, env, free_all, get, get_in, look_at, pass_all, sets, sets_last}
pub use types.Kit.{ !, Goal, Item, Seq, Step, at_ret, await, by, drop, feq_i, feq_l, fjoin, fpack, fpick, fsplit, join, keep, later, move, pick, qed}
pub use types.Kit.{raw, rewrite, some, split, split3, step, suffices, use0, use1, ‵, ◌$◌, ◌∵◌, ◌⊛◌}
pub use types.Logic.{Logic, sem}
pub use types.Match.{live}
pub use types.Part.{agg, sub, whole}
pub use types.Run.{and_then, bin, branches, enter, exec, first, fld, lit, no_more, of_opd, returns, stop}
