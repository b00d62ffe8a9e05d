-- For private contracts: copies of pairs of borrowed values, put one after another.
use Rattle.std.specs.Prelude.{◌≡◌, ◌+◌, ◌++◌, [], ◌∷◌, Vec}
use Rattle.std.specs.Vec.{vec_len, vec_capacity}
use Rattle.std.specs.declared.alloc.Global.{Global}
use Rattle.trace_values.specs.Refs.{ref_view, ref_pair_views}
use Rattle.trace_values.specs.declared.types.borrowed.FieldValueRef.{FieldValueRef}

-- an equal pair is put after the copies, into the room that was there
pub record PutsPair (pair : FieldValueRef × FieldValueRef) (old new : Vec (FieldValueRef × FieldValueRef) Global)
    : Type 0 where
  pub copied : ref_pair_views new.items ≡ ref_pair_views old.items ++ (ref_view pair.0, ref_view pair.1) ∷ []
  pub one_more : vec_len new ≡ vec_len old + 1
  pub same_room : vec_capacity new ≡ vec_capacity old
