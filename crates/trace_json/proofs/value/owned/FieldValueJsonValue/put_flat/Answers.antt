use Rattle.std.proofs.Common.{◌≡◌, ℕ, List, Vec, rules, ap, ◌∙◌, string_bytes}
use Rattle.std.specs.declared.alloc.Global.{Global}
use Rattle.trace_values.specs.Values.{Value}
use Rattle.trace_values.specs.Values as values
use Rattle.std.proofs.lemmas.Int.{ints, to_z-of_z}
use Rattle.trace_values.specs.ValueViews.{view, text_pairs_view}
use Rattle.trace_values.specs.declared.types.field_value.FieldValue.{the_lemmas}
use Rattle.trace_values.proofs.ListViews.{view_list, view_map}
use Rattle.dial9_trace_format.specs.parts.Resolving.{as_pools}
use Rattle.trace_json.proofs.KindsPut.{integer_put, float_put, boolean_put, text_put, bytes_put, pooled_text_put}
use Rattle.trace_json.proofs.KindsPut.{stack_put, pooled_stack_put, number_put, texts_put}
use Rattle.trace_json.proofs.KindsPut.{null_put, list_holds, map_holds}
use Rattle.trace_json.proofs.value.owned.FieldValueJsonValue.put_flat.Goals as goal

abbrev seen_texts : List (Vec ℕ Global × Vec ℕ Global) → Value
seen_texts ps = values.texts (text_pairs_view ps)

pub returns-in-I64-clause-tokens : goal.returns-in-I64-clause-tokens
returns-in-I64-clause-tokens c = λ none.
    integer_put (as_pools c.args.strings.now c.args.stacks.now) c.i64.result
    (view c.args.self.now) c.in-I64.number _ _ _
    (ap view c.in-I64.is ∙ search (rules, the_lemmas)) (search (rules, ints, to_z-of_z)) c.i64.ensures.ok

pub returns-in-F64-clause-tokens : goal.returns-in-F64-clause-tokens
returns-in-F64-clause-tokens c = λ none.
    float_put (as_pools c.args.strings.now c.args.stacks.now) c.put_float.result
    (view c.args.self.now) c.in-F64.bits _ _
    (ap view c.in-F64.is ∙ search (rules, the_lemmas)) c.put_float.ensures.tokens

pub returns-in-Bool-clause-tokens : goal.returns-in-Bool-clause-tokens
returns-in-Bool-clause-tokens c = λ none.
    boolean_put (as_pools c.args.strings.now c.args.stacks.now) c.boolean.result
    (view c.args.self.now) c.in-Bool.flag _ _
    (ap view c.in-Bool.is ∙ search (rules, the_lemmas)) c.boolean.ensures.ok

pub returns-in-String-clause-tokens : goal.returns-in-String-clause-tokens
returns-in-String-clause-tokens c = λ none.
    let same : string_bytes c.in-String.text ≡ c.as_str.result.now = search rules in
    text_put (as_pools c.args.strings.now c.args.stacks.now) c.string.result
    (view c.args.self.now) c.as_str.result.now _ _
    (ap view c.in-String.is ∙ search (rules, the_lemmas) ∙ ap values.text same) c.string.ensures.ok

pub returns-in-Bytes-clause-tokens : goal.returns-in-Bytes-clause-tokens
returns-in-Bytes-clause-tokens c = λ none.
    let same : c.in-Bytes.bytes.items ≡ c.as_slice.result.now = search rules in
    bytes_put (as_pools c.args.strings.now c.args.stacks.now) c.put_bytes.result
    (view c.args.self.now) c.as_slice.result.now _ _
    (ap view c.in-Bytes.is ∙ search (rules, the_lemmas) ∙ ap values.bytes same) c.put_bytes.ensures.tokens

pub returns-in-PooledString-clause-tokens : goal.returns-in-PooledString-clause-tokens
returns-in-PooledString-clause-tokens c = λ none.
    pooled_text_put (as_pools c.args.strings.now c.args.stacks.now) c.put_pooled_text.result
    (view c.args.self.now) c.in-PooledString.id.0 _ _
    (ap view c.in-PooledString.is ∙ search (rules, the_lemmas)) c.put_pooled_text.ensures.tokens

pub returns-in-StackFrames-clause-tokens : goal.returns-in-StackFrames-clause-tokens
returns-in-StackFrames-clause-tokens c = λ none.
    let same : c.in-StackFrames.frames.0.items ≡ c.as_slice-in-StackFrames.result.now = search rules in
    stack_put (as_pools c.args.strings.now c.args.stacks.now) c.put_stack.result
    (view c.args.self.now) c.as_slice-in-StackFrames.result.now _ _
    (ap view c.in-StackFrames.is ∙ search (rules, the_lemmas) ∙ ap values.stack same) c.put_stack.ensures.tokens

pub returns-in-PooledStackFrames-clause-tokens : goal.returns-in-PooledStackFrames-clause-tokens
returns-in-PooledStackFrames-clause-tokens c = λ none.
    pooled_stack_put (as_pools c.args.strings.now c.args.stacks.now) c.put_pooled_stack.result
    (view c.args.self.now) c.in-PooledStackFrames.id.0 _ _
    (ap view c.in-PooledStackFrames.is ∙ search (rules, the_lemmas)) c.put_pooled_stack.ensures.tokens

pub returns-in-Varint-clause-tokens : goal.returns-in-Varint-clause-tokens
returns-in-Varint-clause-tokens c = λ none.
    number_put (as_pools c.args.strings.now c.args.stacks.now) c.u64.result
    (view c.args.self.now) c.in-Varint.number _ _
    (ap view c.in-Varint.is ∙ search (rules, the_lemmas)) c.u64.ensures.ok

pub returns-in-StringMap-clause-tokens : goal.returns-in-StringMap-clause-tokens
returns-in-StringMap-clause-tokens c = λ none.
    let same : c.in-StringMap.pairs.items ≡ c.as_slice-in-StringMap.result.now = search rules in
    texts_put (as_pools c.args.strings.now c.args.stacks.now) c.put_owned_texts.result
    (view c.args.self.now) (text_pairs_view c.as_slice-in-StringMap.result.now) _ _
    (ap view c.in-StringMap.is ∙ search (rules, the_lemmas) ∙ ap seen_texts same) c.put_owned_texts.ensures.tokens

pub returns-in-None-clause-tokens : goal.returns-in-None-clause-tokens
returns-in-None-clause-tokens c = λ none.
    null_put (as_pools c.args.strings.now c.args.stacks.now) c.null.result (view c.args.self.now) _ _
    (ap view c.in-None.is ∙ search (rules, the_lemmas)) c.null.ensures.ok

pub returns-in-List-clause-tokens : goal.returns-in-List-clause-tokens
returns-in-List-clause-tokens c = λ none.
    list_holds (view c.args.self.now) _ (ap view c.in-List.is ∙ view_list _) none

pub returns-in-Map-clause-tokens : goal.returns-in-Map-clause-tokens
returns-in-Map-clause-tokens c = λ none.
    map_holds (view c.args.self.now) _ (ap view c.in-Map.is ∙ view_map _) none
