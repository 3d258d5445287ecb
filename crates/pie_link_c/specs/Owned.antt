-- The ownership of a handle that C holds: nothing if it is closed, otherwise that of the box of its port or excerpt.
use Rattle.std.specs.Prelude.{Option, Some, None}
use Rattle.pie_link_c.specs.Names.{Global}
use base.Fml.{Fml, feq}
use base.Stored.{Coded}
use denote.RattleType.{RattleType}
use denote.RawPtr.{Ptr, null_ptr}
use Rattle.std.specs.Coded.{coded_option}
use Rattle.std.specs.Box.Ownership.{box_owns}
use Rattle.std.specs.contracts.impls.GlobalAllocator.TheImpl.{ghosts}
use Rattle.pie_link_c.specs.contracts.port.Port as port
use Rattle.pie_link_c.specs.contracts.excerpt.ExcerptText as text

module _ (R : RattleType) where
  abbrev pub owns_if : Global → Ptr → Option R.Denot → Fml
  owns_if alloc at None = feq Ptr at null_ptr
  owns_if alloc at (Some held) = box_owns (ghosts.dealloc_token alloc) R at held

abbrev pub maybe_port : Coded (Option port.the_row.Denot)
maybe_port = coded_option port.the_row.coded

abbrev pub maybe_text : Coded (Option text.the_row.Denot)
maybe_text = coded_option text.the_row.coded

abbrev pub owns_port_if : Global → Ptr → Option port.the_row.Denot → Fml
owns_port_if = owns_if port.the_row

abbrev pub owns_text_if : Global → Ptr → Option text.the_row.Denot → Fml
owns_text_if = owns_if text.the_row
