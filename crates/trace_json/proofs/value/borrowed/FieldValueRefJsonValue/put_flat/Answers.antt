use Rattle.std.proofs.Common.{rules, ap, ◌∙◌}
use Rattle.std.proofs.lemmas.Int.{ints, to_z-of_z}
use Rattle.trace_values.specs.Refs.{ref_view}
use Rattle.trace_values.specs.RawViews.{stack_view, string_map_view}
use Rattle.trace_values.specs.declared.types.borrowed.FieldValueRef.{the_lemmas}
use Rattle.trace_values.proofs.ListViews.{view_list_ref, view_map_ref}
use Rattle.dial9_trace_format.specs.parts.Resolving.{as_pools}
use Rattle.trace_json.proofs.KindsPut.{integer_put, float_put, boolean_put, text_put, bytes_put, pooled_text_put}
use Rattle.trace_json.proofs.KindsPut.{stack_put, pooled_stack_put, number_put, texts_put}
use Rattle.trace_json.proofs.KindsPut.{null_put, list_holds, map_holds}
use Rattle.trace_json.proofs.value.borrowed.FieldValueRefJsonValue.put_flat.Goals as goal

pub returns-in-I64-clause-tokens : goal.returns-in-I64-clause-tokens
returns-in-I64-clause-tokens c = λ none.
    integer_put (as_pools c.args.strings.now c.args.stacks.now) c.i64.result
    (ref_view c.args.self.now) c.in-I64.number _ _ _
    (ap ref_view c.in-I64.is ∙ search (rules, the_lemmas)) (search (rules, ints, to_z-of_z)) c.i64.ensures.ok

pub returns-in-F64-clause-tokens : goal.returns-in-F64-clause-tokens
returns-in-F64-clause-tokens c = λ none.
    float_put (as_pools c.args.strings.now c.args.stacks.now) c.put_float.result
    (ref_view c.args.self.now) c.in-F64.bits _ _
    (ap ref_view c.in-F64.is ∙ search (rules, the_lemmas)) c.put_float.ensures.tokens

pub returns-in-Bool-clause-tokens : goal.returns-in-Bool-clause-tokens
returns-in-Bool-clause-tokens c = λ none.
    boolean_put (as_pools c.args.strings.now c.args.stacks.now) c.boolean.result
    (ref_view c.args.self.now) c.in-Bool.flag _ _
    (ap ref_view c.in-Bool.is ∙ search (rules, the_lemmas)) c.boolean.ensures.ok

pub returns-in-String-clause-tokens : goal.returns-in-String-clause-tokens
returns-in-String-clause-tokens c = λ none.
    text_put (as_pools c.args.strings.now c.args.stacks.now) c.string.result
    (ref_view c.args.self.now) c.in-String.text.now _ _
    (ap ref_view c.in-String.is ∙ search (rules, the_lemmas)) c.string.ensures.ok

pub returns-in-Bytes-clause-tokens : goal.returns-in-Bytes-clause-tokens
returns-in-Bytes-clause-tokens c = λ none.
    bytes_put (as_pools c.args.strings.now c.args.stacks.now) c.put_bytes.result
    (ref_view c.args.self.now) c.in-Bytes.bytes.now _ _
    (ap ref_view c.in-Bytes.is ∙ search (rules, the_lemmas)) c.put_bytes.ensures.tokens

pub returns-in-PooledString-clause-tokens : goal.returns-in-PooledString-clause-tokens
returns-in-PooledString-clause-tokens c = λ none.
    pooled_text_put (as_pools c.args.strings.now c.args.stacks.now) c.put_pooled_text.result
    (ref_view c.args.self.now) c.in-PooledString.id.0 _ _
    (ap ref_view c.in-PooledString.is ∙ search (rules, the_lemmas)) c.put_pooled_text.ensures.tokens

pub returns-in-StackFrames-clause-tokens : goal.returns-in-StackFrames-clause-tokens
returns-in-StackFrames-clause-tokens c = λ none.
    stack_put (as_pools c.args.strings.now c.args.stacks.now) c.put_stack_ref.result
    (ref_view c.args.self.now) (stack_view c.in-StackFrames.frames) _ _
    (ap ref_view c.in-StackFrames.is ∙ search (rules, the_lemmas)) c.put_stack_ref.ensures.tokens

pub returns-in-PooledStackFrames-clause-tokens : goal.returns-in-PooledStackFrames-clause-tokens
returns-in-PooledStackFrames-clause-tokens c = λ none.
    pooled_stack_put (as_pools c.args.strings.now c.args.stacks.now) c.put_pooled_stack.result
    (ref_view c.args.self.now) c.in-PooledStackFrames.id.0 _ _
    (ap ref_view c.in-PooledStackFrames.is ∙ search (rules, the_lemmas)) c.put_pooled_stack.ensures.tokens

pub returns-in-Varint-clause-tokens : goal.returns-in-Varint-clause-tokens
returns-in-Varint-clause-tokens c = λ none.
    number_put (as_pools c.args.strings.now c.args.stacks.now) c.u64.result
    (ref_view c.args.self.now) c.in-Varint.number _ _
    (ap ref_view c.in-Varint.is ∙ search (rules, the_lemmas)) c.u64.ensures.ok

pub returns-in-StringMap-clause-tokens : goal.returns-in-StringMap-clause-tokens
returns-in-StringMap-clause-tokens c = λ none.
    texts_put (as_pools c.args.strings.now c.args.stacks.now) c.put_texts.result
    (ref_view c.args.self.now) (string_map_view c.in-StringMap.pairs) _ _
    (ap ref_view c.in-StringMap.is ∙ search (rules, the_lemmas)) c.put_texts.ensures.tokens

pub returns-in-None-clause-tokens : goal.returns-in-None-clause-tokens
returns-in-None-clause-tokens c = λ none.
    null_put (as_pools c.args.strings.now c.args.stacks.now) c.null.result (ref_view c.args.self.now) _ _
    (ap ref_view c.in-None.is ∙ search (rules, the_lemmas)) c.null.ensures.ok

pub returns-in-List-clause-tokens : goal.returns-in-List-clause-tokens
returns-in-List-clause-tokens c = λ none.
    list_holds (ref_view c.args.self.now) _ (ap ref_view c.in-List.is ∙ view_list_ref _) none

pub returns-in-Map-clause-tokens : goal.returns-in-Map-clause-tokens
returns-in-Map-clause-tokens c = λ none.
    map_holds (ref_view c.args.self.now) _ (ap ref_view c.in-Map.is ∙ view_map_ref _) none
