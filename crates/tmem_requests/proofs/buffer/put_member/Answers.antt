use Rattle.std.proofs.Common.{◌≡◌, string_cmp, ap, ◌∙◌, rules}
use Rattle.std.specs.BTreeMap.{insert_entry}
use Rattle.serde_json.specs.View.{members_view}
use Rattle.serde_json.proofs.Views.{members_view-insert_entry}
use Rattle.tmem_requests.proofs.buffer.put_member.Goals as goal

pub returns : goal.returns
returns c =
    let entries : c.insert.new.self.entries ≡ insert_entry string_cmp c.args.members.now.entries c.args.key c.args.member = search rules in
    ap members_view entries ∙ members_view-insert_entry c.args.members.now.entries c.args.key c.args.member
