use Rattle.std.proofs.Common.{◌≡◌, ℕ, List, [], ◌++◌, append-nil, ap, subst, ◌∙◌}
use Rattle.std.specs.Prelude.{option_map, codes, map as list_map}
use Rattle.json.specs.Print.{print}
use Rattle.trace_json.specs.EventJson.{list_json}
use Rattle.trace_json.specs.parts.Put.{member_tokens}
use Rattle.trace_page.specs.Files.{events_of, with_rest, clock_json}
use Rattle.trace_page.specs.Holding.{HoldsEvents, tables_of}
use Rattle.trace_page.specs.PageSchemas.{schema_json}
use Rattle.trace_page.specs.Pages.{start_of}
use Rattle.trace_page.specs.declared.clocks.FileClock.{FileClock}
use Rattle.trace_page.specs.declared.schemas.PageSchema.{PageSchema}
use Rattle.trace_page.specs.parts.Assembling.{columns_end, last_tokens}
use Rattle.trace_page.proofs.Assembled.{Parts}
use Rattle.trace_page.proofs.Growing.{events_grow}
use Rattle.trace_page.proofs.Told.{page_text}
use Rattle.trace_page.proofs.data.PageData.finish.Goals as goal

pub returns-clause-page : goal.returns-clause-page
returns-clause-page c = λ files rest holds.
    let d = c.end_rest.new.self in
    let all = with_rest files rest in
    let ended = c.in_ok-end_rest.ensures.ended files rest holds in
    let shown : HoldsEvents d (events_of all) = subst (HoldsEvents d) (append-nil (events_of all)) ended.shown in
    let lists = c.in_ok-put_lists.ensures.tokens in
    let end = option_map (λ t. t.now) c.args.end in
    let columns : c.put_columns.new.out.tokens ≡ d.text.tokens ++ columns_end d.times.items d.places.items
    = c.in_ok-put_columns.ensures.tokens
    ∙ ap (λ (l : List ℕ). d.text.tokens ++ columns_end l c.deref-2.result.now) c.deref.ensures.value
    ∙ ap (λ (l : List ℕ). d.text.tokens ++ columns_end d.times.items l) c.deref-2.ensures.value in
    let schemas : c.put_schemas.new.out.tokens
    ≡ c.put_lists.new.out.tokens ++ member_tokens (codes "schemas", list_json (list_map schema_json d.schemas.items))
    = c.in_ok-put_schemas.ensures.tokens
    ∙ ap (λ (l : List PageSchema).
    c.put_lists.new.out.tokens ++ member_tokens (codes "schemas", list_json (list_map schema_json l)))
    c.deref-3.ensures.value in
    let clocks : c.put_clocks.new.out.tokens
    ≡ c.put_schemas.new.out.tokens ++ member_tokens (codes "clocks", list_json (list_map clock_json d.clocks.items))
    = c.in_ok-put_clocks.ensures.tokens
    ∙ ap (λ (l : List FileClock).
    c.put_schemas.new.out.tokens ++ member_tokens (codes "clocks", list_json (list_map clock_json l)))
    c.deref-4.ensures.value in
    let last : c.put_last.new.out.tokens
    ≡ c.put_clocks.new.out.tokens ++ last_tokens (start_of d.times.items) c.args.name.now end
    = c.in_ok-put_last.ensures.tokens
    ∙ ap (λ (s : ℕ). c.put_clocks.new.out.tokens ++ last_tokens s c.args.name.now end)
    (c.start_of.ensures ∙ ap start_of c.deref-5.ensures.value) in
    let before : c.put_last.new.out.before ≡ []
    = c.in_ok-put_last.ensures.before ∙ c.in_ok-put_clocks.ensures.before ∙ c.in_ok-put_schemas.ensures.before
    ∙ c.in_ok-put_lists.ensures.before ∙ c.in_ok-put_columns.ensures.before ∙ d.starts in
    let printed : c.into_inner.result.items ≡ print c.put_last.new.out.tokens
    = c.into_inner.ensures.items ∙ ap (λ (b : List ℕ). b ++ print c.put_last.new.out.tokens) before in
    let p : Parts = record {
      tables = tables_of c.put_lists.new.names;
      values = shown.values;
      times = d.times.items;
      places = d.places.items;
      schemas = d.schemas.items;
      stacks = lists.stacks;
      clocks = d.clocks.items;
      name = c.args.name.now;
      end = end;
    } in
    page_text all p c.into_inner.result.items (record {
      all = c.put_last.new.out.tokens;
      values_are = events_grow _ _ c.in_ok-put_lists.ensures.grown (events_of all) shown.values shown.values_are;
      times = shown.times;
      schemas_are = shown.schemas;
      stacks_are = lists.are;
      clocks = ended.clocks;
      written = record {
        one = d.text.tokens;
        two = c.put_columns.new.out.tokens;
        three = c.put_lists.new.out.tokens;
        four = c.put_schemas.new.out.tokens;
        five = c.put_clocks.new.out.tokens;
        values = shown.written;
        columns = columns;
        lists = lists.tokens;
        schemas = schemas;
        clocks = clocks;
        last = last;
      };
      printed = printed;
      back = c.into_inner.ensures.reads_back;
    })
