use Rattle.std.proofs.Common.{◌≡◌, ℕ, List, Vec, rules, ap, refl, ◌∙◌, string_bytes}
use Rattle.std.specs.declared.alloc.Global.{Global}
use Rattle.std.proofs.lemmas.Int.{ints, to_z-of_z}
use Rattle.std.specs.Int.{w64, cast_signed, cast_unsigned}
use Rattle.json.specs.Json.{boolean, null}
use Rattle.trace_values.specs.Values.{Value}
use Rattle.trace_values.specs.Values as values
use Rattle.trace_values.specs.ValueViews.{view, text_pairs_view}
use Rattle.trace_values.specs.declared.types.field_value.FieldValue.{the_lemmas}
use Rattle.trace_values.proofs.ListViews.{view_list, view_map}
use Rattle.dial9_trace_format.specs.parts.Resolving.{as_pools}
use Rattle.trace_page.specs.Holding.{tables_of}
use Rattle.trace_page.specs.PageValues.{integer_json, natural_json}
use Rattle.trace_page.proofs.Chains.{so_on_ok}
use Rattle.trace_page.proofs.Growing.{grows_refl}
use Rattle.trace_page.proofs.KindsPut.{json_put, kind_put, list_holds, map_holds}
use Rattle.trace_page.proofs.values.owned.FieldValuePageValue.put_flat.Goals as goal

abbrev seen_texts : List (Vec ℕ Global × Vec ℕ Global) → Value
seen_texts ps = values.texts (text_pairs_view ps)

pub returns-in-I64-clause-tokens : goal.returns-in-I64-clause-tokens
returns-in-I64-clause-tokens c = λ none.
    let put = cast_signed w64 (cast_unsigned w64 c.in-I64.number) in
    let same : put ≡ c.in-I64.number = search (rules, ints, to_z-of_z) in
    json_put _ (as_pools c.args.strings.now c.args.stacks.now) c.put_integer.result (view c.args.self.now)
    (record { value = values.integer c.in-I64.number; same = ap view c.in-I64.is ∙ search (rules, the_lemmas) })
    (integer_json put) _ _ (ap integer_json same) c.put_integer.ensures.tokens

pub returns-in-I64-clause-grown : goal.returns-in-I64-clause-grown
returns-in-I64-clause-grown c = so_on_ok _ (grows_refl (tables_of c.args.names.now))

pub returns-in-F64-clause-tokens : goal.returns-in-F64-clause-tokens
returns-in-F64-clause-tokens c = λ none.
    kind_put _ (as_pools c.args.strings.now c.args.stacks.now) c.put_float.result (view c.args.self.now)
    (record { value = values.float c.in-F64.bits; same = ap view c.in-F64.is ∙ search (rules, the_lemmas) })
    _ _ _ (λ j so. so) c.put_float.ensures.tokens

pub returns-in-F64-clause-grown : goal.returns-in-F64-clause-grown
returns-in-F64-clause-grown c = so_on_ok _ (grows_refl (tables_of c.args.names.now))

pub returns-in-Bool-clause-tokens : goal.returns-in-Bool-clause-tokens
returns-in-Bool-clause-tokens c = λ none.
    json_put _ (as_pools c.args.strings.now c.args.stacks.now) c.boolean.result (view c.args.self.now)
    (record { value = values.boolean c.in-Bool.flag; same = ap view c.in-Bool.is ∙ search (rules, the_lemmas) })
    (boolean c.in-Bool.flag) _ _ refl c.boolean.ensures.ok

pub returns-in-Bool-clause-grown : goal.returns-in-Bool-clause-grown
returns-in-Bool-clause-grown c = so_on_ok _ (grows_refl (tables_of c.args.names.now))

pub returns-in-String-clause-tokens : goal.returns-in-String-clause-tokens
returns-in-String-clause-tokens c = λ none.
    let same : string_bytes c.in-String.text ≡ c.as_str.result.now = search rules in
    kind_put _ (as_pools c.args.strings.now c.args.stacks.now) c.put_text.result (view c.args.self.now)
    (record {
      value = values.text c.as_str.result.now;
      same = ap view c.in-String.is ∙ search (rules, the_lemmas) ∙ ap values.text same;
    })
    _ _ _ (λ j so. so) c.put_text.ensures.tokens

pub returns-in-Bytes-clause-tokens : goal.returns-in-Bytes-clause-tokens
returns-in-Bytes-clause-tokens c = λ none.
    let same : c.in-Bytes.bytes.items ≡ c.as_slice.result.now = search rules in
    kind_put _ (as_pools c.args.strings.now c.args.stacks.now) c.put_bytes.result (view c.args.self.now)
    (record {
      value = values.bytes c.as_slice.result.now;
      same = ap view c.in-Bytes.is ∙ search (rules, the_lemmas) ∙ ap values.bytes same;
    })
    _ _ _ (λ j so. so) c.put_bytes.ensures.tokens

pub returns-in-PooledString-clause-tokens : goal.returns-in-PooledString-clause-tokens
returns-in-PooledString-clause-tokens c = λ none.
    kind_put _ (as_pools c.args.strings.now c.args.stacks.now) c.put_pooled_text.result (view c.args.self.now)
    (record {
      value = values.pooled_text c.in-PooledString.id.0;
      same = ap view c.in-PooledString.is ∙ search (rules, the_lemmas);
    })
    _ _ _ (λ j so. so) c.put_pooled_text.ensures.tokens

pub returns-in-StackFrames-clause-tokens : goal.returns-in-StackFrames-clause-tokens
returns-in-StackFrames-clause-tokens c = λ none.
    let frames = c.as_slice-in-StackFrames.result.now in
    let same : c.in-StackFrames.frames.0.items ≡ frames = search rules in
    kind_put _ (as_pools c.args.strings.now c.args.stacks.now) c.put_stack.result (view c.args.self.now)
    (record {
      value = values.stack frames;
      same = ap view c.in-StackFrames.is ∙ search (rules, the_lemmas) ∙ ap values.stack same;
    })
    _ _ _ (λ j so. so) c.put_stack.ensures.tokens

pub returns-in-PooledStackFrames-clause-tokens : goal.returns-in-PooledStackFrames-clause-tokens
returns-in-PooledStackFrames-clause-tokens c = λ none.
    let id = c.in-PooledStackFrames.id.0 in
    kind_put _ (as_pools c.args.strings.now c.args.stacks.now) c.put_pooled_stack.result (view c.args.self.now)
    (record { value = values.pooled_stack id; same = ap view c.in-PooledStackFrames.is ∙ search (rules, the_lemmas) })
    _ _ _ (λ j so. so) c.put_pooled_stack.ensures.tokens

pub returns-in-Varint-clause-tokens : goal.returns-in-Varint-clause-tokens
returns-in-Varint-clause-tokens c = λ none.
    json_put _ (as_pools c.args.strings.now c.args.stacks.now) c.put_natural.result (view c.args.self.now)
    (record { value = values.number c.in-Varint.number; same = ap view c.in-Varint.is ∙ search (rules, the_lemmas) })
    (natural_json c.in-Varint.number) _ _ refl c.put_natural.ensures.tokens

pub returns-in-Varint-clause-grown : goal.returns-in-Varint-clause-grown
returns-in-Varint-clause-grown c = so_on_ok _ (grows_refl (tables_of c.args.names.now))

pub returns-in-StringMap-clause-tokens : goal.returns-in-StringMap-clause-tokens
returns-in-StringMap-clause-tokens c = λ none.
    let pairs = c.as_slice-in-StringMap.result.now in
    let same : c.in-StringMap.pairs.items ≡ pairs = search rules in
    kind_put _ (as_pools c.args.strings.now c.args.stacks.now) c.put_texts.result (view c.args.self.now)
    (record {
      value = seen_texts pairs;
      same = ap view c.in-StringMap.is ∙ search (rules, the_lemmas) ∙ ap seen_texts same;
    })
    _ _ _ (λ j so. so) c.put_texts.ensures.tokens

pub returns-in-None-clause-tokens : goal.returns-in-None-clause-tokens
returns-in-None-clause-tokens c = λ none.
    json_put _ (as_pools c.args.strings.now c.args.stacks.now) c.null.result (view c.args.self.now)
    (record { value = values.absent; same = ap view c.in-None.is ∙ search (rules, the_lemmas) })
    null _ _ refl c.null.ensures.ok

pub returns-in-None-clause-grown : goal.returns-in-None-clause-grown
returns-in-None-clause-grown c = so_on_ok _ (grows_refl (tables_of c.args.names.now))

pub returns-in-List-clause-tokens : goal.returns-in-List-clause-tokens
returns-in-List-clause-tokens c = λ none.
    list_holds (view c.args.self.now) _ (ap view c.in-List.is ∙ view_list _) none

pub returns-in-List-clause-grown : goal.returns-in-List-clause-grown
returns-in-List-clause-grown c = so_on_ok _ (grows_refl (tables_of c.args.names.now))

pub returns-in-Map-clause-tokens : goal.returns-in-Map-clause-tokens
returns-in-Map-clause-tokens c = λ none.
    map_holds (view c.args.self.now) _ (ap view c.in-Map.is ∙ view_map _) none

pub returns-in-Map-clause-grown : goal.returns-in-Map-clause-grown
returns-in-Map-clause-grown c = so_on_ok _ (grows_refl (tables_of c.args.names.now))
