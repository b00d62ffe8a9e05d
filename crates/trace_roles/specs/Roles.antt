-- Which field of an event does what in a viewer.
use Rattle.std.specs.Prelude.{◌≡◌, ℕ, Bool, ◌&&◌, ◌||◌, List, Option, Some, None, IsNone}
use Rattle.std.specs.Prelude.{length, codes, option_map, find, position, nat_eq, nat_lt, bytes_eq}
use Rattle.trace_wire.specs.Schemas.{Field, Annotation, Entry}
use Rattle.trace_roles.specs.declared.roles.Roles.{Roles}
use Rattle.trace_roles.specs.declared.roles.Shape.{Shape}
use Rattle.trace_roles.specs.declared.roles.Shape.TheVariants as shapes

-- the field index of annotations that stand for the schema itself
abbrev pub of_schema : ℕ
of_schema = 65535

-- an annotation of a field with a key
abbrev pub is_note : ℕ → List ℕ → Annotation → Bool
is_note index key a = nat_eq a.index index && bytes_eq a.key key

-- what the first annotation of a field with a key says
abbrev pub note_of : Entry → ℕ → List ℕ → Option (List ℕ)
note_of e index key = option_map (λ a. a.value) (find (is_note index key) e.annotations)

-- an annotation which says that its field has a role, of a schema with so many fields
abbrev pub is_role : ℕ → List ℕ → Annotation → Bool
is_role count role a = nat_lt a.index count && (bytes_eq a.key (codes "role") && bytes_eq a.value role)

-- the field that has a role: the one of the first annotation that says so
abbrev pub field_with_role : Entry → List ℕ → Option ℕ
field_with_role e role = option_map (λ a. a.index) (find (is_role (length e.fields) role) e.annotations)

-- fields of this name say the track where no annotation does
abbrev pub is_usual_track : List ℕ → Bool
is_usual_track name = bytes_eq name (codes "tid")
    || (bytes_eq name (codes "worker_id") || (bytes_eq name (codes "worker") || bytes_eq name (codes "thread")))

-- the first field with a usual name
abbrev pub usual_track : List Field → Option ℕ
usual_track fields = position (λ f. is_usual_track f.name) fields

-- the first of two that is there
abbrev pub or_else : Option ℕ → Option ℕ → Option ℕ
or_else (Some i) other = Some i
or_else None other = other

-- the field that says the track: the one with that role, else the first with a usual name
abbrev pub track_of : Entry → Option ℕ
track_of e = or_else (field_with_role e (codes "tid")) (usual_track e.fields)

-- what an event with these roles is: it begins a slice, else ends one, else is one, else is an instant
abbrev pub IsShape : Roles → Shape → Type 0
IsShape r (shapes.Begins group) = r.begin ≡ Some group
IsShape r (shapes.Ends group) = IsNone r.begin × (r.end ≡ Some group)
IsShape r (shapes.Slice index) = IsNone r.begin × IsNone r.end × (r.duration ≡ Some index)
IsShape r shapes.Instant = IsNone r.begin × IsNone r.end × IsNone r.duration
