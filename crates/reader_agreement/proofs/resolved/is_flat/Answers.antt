use Rattle.std.proofs.Common.{◌≡◌, List, rules, sym, ap, ap₂, ◌∙◌, Vec, String, Global}
use Rattle.std.proofs.lemmas.Bool.Decides.{same_from_decides}
use Rattle.trace_values.specs.Equal.{same_value}
use Rattle.trace_values.specs.Raw.{texts_front}
use Rattle.trace_values.specs.RawViews.{string_map_view}
use Rattle.trace_values.specs.Refs.{ref_view}
use Rattle.trace_values.specs.TraceFields.{string_pairs}
use Rattle.trace_values.specs.Values.{Value, texts}
use Rattle.trace_values.specs.declared.types.borrowed.FieldValueRef.{the_lemmas as ref_lemmas}
use Rattle.trace_values.specs.declared.types.borrowed.FieldValueRef.TheVariants as refs
use Rattle.trace_values.specs.declared.types.string_map_ref.StringMapRef.{StringMapRef}
use Rattle.trace_values.specs.parts.types.EqualLaws.{same_texts-Decides}
use Rattle.dial9_trace_format.specs.ResolvedViews.{resolved_view}
use Rattle.dial9_trace_format.specs.Resolving.{in_full}
use Rattle.dial9_trace_format.specs.declared.resolve.ResolvedValue.{the_lemmas}
use Rattle.dial9_trace_format.specs.declared.resolve.ResolvedValue.TheVariants as made
use Rattle.reader_agreement.proofs.resolved.is_flat.Goals as goal

view_map : (m : StringMapRef) → ref_view (refs.StringMap m) ≡ texts (string_map_view m)
view_map m = search (rules, ref_lemmas)

view_found : (v : Vec (String Global × String Global) Global) → resolved_view (made.StringMap v)
    ≡ texts (string_pairs v.items)
view_found v = search (rules, the_lemmas)

pub returns-in-StringMap-StringMap : goal.returns-in-StringMap-StringMap
returns-in-StringMap-StringMap c = λ pools flat.
    let map = c.in-StringMap-StringMap.x in
    let pairs = c.in-StringMap-StringMap.y in
    let x : ref_view c.args.value.now ≡ texts (string_map_view map) =
    ap ref_view c.in-StringMap-StringMap.is-0 ∙ view_map map in
    let y : resolved_view c.args.found.now ≡ texts (string_pairs pairs.items) =
    ap resolved_view c.in-StringMap-StringMap.is-1 ∙ view_found pairs in
    let seen = c.as_slice-in-StringMap-StringMap in
    same_from_decides c.are_shown.result _ c.are_shown.ensures
    (same_texts-Decides (string_pairs seen.result.now) (texts_front (string_map_view map)))
    ∙ ap₂ (λ (u v : Value). same_value u (in_full pools v))
    (ap (λ (ps : List _). texts (string_pairs ps)) seen.ensures.value ∙ sym y) (sym x)
